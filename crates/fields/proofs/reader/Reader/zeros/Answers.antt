use Rattle.std.proofs.Common.{arith}
use Rattle.layouts.proofs.Golomb.{head-zeros}
use Rattle.fields.proofs.reader.Reader.zeros.Goals as goal

pub overflow_sub-result-2 : goal.overflow_sub-result-2
overflow_sub-result-2 c = omega (arith, head-zeros c.args.self.now.bytes.now c.args.self.now.at (omega arith) c.min-ahead.result c.window-head.result (omega arith) c.window-head.ensures)
