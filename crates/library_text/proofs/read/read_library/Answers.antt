use Rattle.std.proofs.Common.{◌≡◌, List}
use Rattle.cert_text.specs.declared.certificate.Certificate.{Certificate}
use Rattle.library_text.specs.declared.fault.LibraryFault.{LibraryFault}
use Rattle.library_text.specs.Reading.{IsReadable, IsTextOf, IsEndOf, IsFaultAs, HasFirstFault}
use Rattle.library_text.proofs.Reading.{ok_from, err_from, end_fault}
use Rattle.library_text.proofs.read.read_library.Goals as goal

pub returns-clause-again : goal.returns-clause-again
returns-clause-again c =
    ok_from c.library_of.result (λ found. IsReadable found.items) (λ found. IsTextOf found.items c.args.bytes.now)
    (λ found. (certificates : List Certificate) → IsReadable certificates → IsTextOf certificates c.args.bytes.now → found.items ≡ certificates)
    (λ found readable text certificates too its_text. c.library_laws.ensures.texts found.items certificates c.args.bytes.now readable too text its_text)
    c.library_of.ensures.readable c.library_of.ensures.text

pub returns-clause-only : goal.returns-clause-only
returns-clause-only c =
    err_from c.library_of.result (IsEndOf c.args.bytes.now) (λ end. (fault : LibraryFault) → HasFirstFault c.args.bytes.now fault → IsFaultAs fault end)
    (end_fault c.library_laws.ensures.one_fault c.args.bytes.now) c.library_of.ensures.end

pub returns-clause-faultless : goal.returns-clause-faultless
returns-clause-faultless c =
    ok_from c.library_of.result (λ found. IsReadable found.items) (λ found. IsTextOf found.items c.args.bytes.now)
    (λ found. (fault : LibraryFault) → HasFirstFault c.args.bytes.now fault → ⊥)
    (λ found readable text fault. c.library_laws.ensures.faultless found.items c.args.bytes.now fault readable text)
    c.library_of.ensures.readable c.library_of.ensures.text
