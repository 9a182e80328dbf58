-- The line of `usi`, in clap's own terms.
use Rattle.std.specs.Prelude.{codes}
use Rattle.clap.specs.Words.{App, new_app}

-- `usi` has nothing but its name.
unfoldable pub usi_line : App
usi_line = new_app (codes "usi")
