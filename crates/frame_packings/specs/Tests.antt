-- A closure that answers by a test, as `bounded` defines it.
pub use Rattle.bounded.specs.Tests.{Tests}
