use Rattle.std.proofs.Common.{All, subst, sym, take}
use Rattle.unit_desk.specs.Known.{IsKnown}
use Rattle.cmd_library.proofs.Knowing.{notes_known}
use Rattle.cmd_library.proofs.begun.known_notes.Goals as goal

pub returns-clause-known : goal.returns-clause-known
returns-clause-known c =
    subst (All (IsKnown c.args.side)) (sym c.loop-certificate.invariant)
    (notes_known c.args.side (take c.loop-certificate.certificate-index c.args.certificates.now))
