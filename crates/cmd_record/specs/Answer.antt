-- When an answer to `record` is true, and when its text has a fault.
use Rattle.std.specs.Prelude.{ℕ, List}
use Rattle.board_core.specs.declared.moves.Move.{Move}
use Rattle.board_core.specs.Board.{Board}
use Rattle.cert_text.specs.declared.certificate.Certificate.TheVariants.{Mate, Escape}
use Rattle.cert_text.specs.Certificate.{Mating, Escaping}
use Rattle.cert_check.specs.Valid.{ValidMate, ShowsMate}
use Rattle.play_line.specs.Line.{IsMainLine}
use Rattle.cmd_check.specs.Answer.{IsNoCertificate, IsRefusal, IsTextOfOne}
use Rattle.cmd_record.specs.declared.answer.RecordAnswer.{RecordAnswer}
use Rattle.cmd_record.specs.declared.answer.RecordAnswer.TheVariants.{Recorded, Refused}
use Rattle.cmd_record.specs.declared.fault.RecordFault.{RecordFault}
use Rattle.cmd_record.specs.declared.fault.RecordFault.TheVariants as faults

-- A mate's certificate is valid for its problem, which so is a mate, and these are the moves of its
-- main line.
pub record HasMainLine (c : Mating) (problem : Board) (moves : List Move) : Type 0 where
  pub valid : ValidMate c problem
  pub shows : ShowsMate c problem
  pub line : IsMainLine c problem.side problem moves

-- An answer is true of a mate's certificate: the record is of its problem and its main line; or it
-- isn't valid for its own problem, for this first reason.
abbrev pub IsTrueOfMate : Mating → RecordAnswer → Type 0
IsTrueOfMate c (Recorded problem moves) = HasMainLine c problem.position moves
IsTrueOfMate c (Refused entry why) = IsRefusal c.problem (Mate c) entry why

-- The bytes of an input are the text of one mate's certificate, of which the answer is true.
pub record IsAnswered (input : List ℕ) (answer : RecordAnswer) : Type 0 where
  pub certificate : Mating
  pub text : IsTextOfOne input (Mate certificate)
  pub true_of : IsTrueOfMate certificate answer

-- The bytes of an input have this fault: they are no certificate's text, and it is their first
-- fault as one; or they are the text of an escape's certificate.
abbrev pub HasFault : List ℕ → RecordFault → Type 0
HasFault input (faults.Certificate fault) = IsNoCertificate input fault
HasFault input faults.NotAMate = (escape : Escaping) × IsTextOfOne input (Escape escape)
