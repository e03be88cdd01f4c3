use Rattle.std.proofs.Common.{arith}
use Rattle.book.proofs.Trusts.{trusted}
use Rattle.visit.proofs.Served.{end-book, end-told, fits_all}
use Rattle.visit.proofs.visit.Visit.serve.Goals as goal

pub returns : goal.returns
returns g c =
    record {
      book = grind (arith, end-book);
      replied = grind (arith, end-told);
      fit = grind (arith, fits_all);
      trusted = trusted g.S.List.Kinds.models g.met.S.List.Kinds.lawful g.met.S.Set.proper;
    }
