-- A crossing of the code as the rules name it.
pub use Rattle.moving.specs.Views.{view, listed}
