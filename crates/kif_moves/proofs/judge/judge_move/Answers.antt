use Rattle.std.proofs.Common.{refl, inl, inr, rules}
use Rattle.kif_moves.proofs.Naming.{defends}
use Rattle.kif_moves.proofs.judge.judge_move.Goals as goal

pub returns-then-not-is_legal : goal.returns-then-not-is_legal
returns-then-not-is_legal c = λ line names. (
  refl,
  record { name = c.args.name; move = c.args.by; names = names; illegal = λ h. let t = c.is_legal.ensures.1 h in cc },
)

pub returns-then-not-has_name : goal.returns-then-not-has_name
returns-then-not-has_name c = λ line names. (
  refl,
  record {
    name = c.args.name;
    move = c.args.by;
    names = names;
    legal = search rules;
    other_piece = λ h. let t = c.has_name.ensures.1 h in cc;
  },
)

pub returns-then-not-moves_attacker : goal.returns-then-not-moves_attacker
returns-then-not-moves_attacker c = λ line names. (
  (c.args.name, names, search rules),
  inr (record { mover = defends c.args.position.now.side c.args.place.attacker (λ e. let t = c.moves_attacker.ensures.1 e in cc); legal = search rules }),
)

pub returns-then-not-gives_check : goal.returns-then-not-gives_check
returns-then-not-gives_check c = λ line names. (
  refl,
  record {
    move = c.args.by;
    says = (c.args.name, names, search rules);
    legal = search rules;
    mover = search rules;
    no_check = λ h. let t = c.gives_check.ensures.1 h in cc;
  },
)

pub returns : goal.returns
returns c = λ line names. (
  (c.args.name, names, search rules),
  inl (record { mover = search rules; legal = search rules; check = search rules }),
)
