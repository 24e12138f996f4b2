use Rattle.std.proofs.Common.{refl}
use Rattle.hk_text.specs.Texts.{texts_of}
use Rattle.hk_exprs.proofs.MachineStuck.{stuck_other}
use Rattle.hk_exprs.proofs.StepsTaken.{atom_placed, atom_unplaced, not_none}
use Rattle.hk_exprs.proofs.stepping.step_atom.Goals as goal

pub atom_of-requires : goal.atom_of-requires
atom_of-requires c = c.requires.tokens

pub operand_of-requires : goal.operand_of-requires
operand_of-requires c = record { few = c.requires.few; read = (texts_of c.args.line.now c.args.tokens.now, texts_of c.args.line.now c.in-Some.rest.now, c.in-Some.ensures.some) }

pub returns-in_default : goal.returns-in_default
returns-in_default c = record {
  some = tt;
  tokens = tt;
  shorter = tt;
  none = λ _ f frames kept after rest. stuck_other c.requires.opens c.requires.closes c.requires.minus (c.requires.awaits f kept) (c.in_default.ensures.none refl);
}

pub returns-in-None : goal.returns-in-None
returns-in-None c = record {
  some = tt;
  tokens = tt;
  shorter = tt;
  none = λ _ f frames kept.
      let operand = c.operand_of.ensures _ _ c.in-Some.ensures.some in
      atom_unplaced operand.1 (c.requires.awaits f kept) (c.place.ensures c.args.names.now f operand.0 kept operand.2) c.in-None.is;
}

pub returns-in-Some-place : goal.returns-in-Some-place
returns-in-Some-place c = record {
  some = λ f frames kept.
      let operand = c.operand_of.ensures _ _ c.in-Some.ensures.some in
      atom_placed operand.1 (c.requires.awaits f kept) (c.place.ensures c.args.names.now f operand.0 kept operand.2) c.in-Some-place.is;
  tokens = c.in-Some.ensures.tokens;
  shorter = c.in-Some.ensures.shorter;
  none = not_none;
}
