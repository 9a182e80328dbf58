use Rattle.std.proofs.Common.{arith, get_or, ap, sym, ◌∙◌}
use Rattle.board_core.specs.Key.{code_of}
use Rattle.board_core.specs.Packed.{code_back}
use Rattle.board_core.proofs.Packed.{piece_at_code}
use Rattle.board_core.proofs.pack.code_at.Goals as goal

pub returns-clause-code : goal.returns-clause-code
returns-clause-code c =
    let code = get_or c.args.codes.now c.args.square c.index-codes-square.result in
    c.from.ensures ∙ sym (ap code_of (piece_at_code c.args.codes.now c.args.square c.index-codes-square.result (omega (arith, c.told-codes, c.requires)))
    ∙ code_back code.number code.known)
