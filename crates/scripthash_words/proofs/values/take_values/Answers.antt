use Rattle.std.proofs.Common.{refl, arith, length-set}
use Rattle.scripthash_words.proofs.LawsValues.{taken_start, taken_next}
use Rattle.scripthash_words.proofs.values.take_values.Goals as goal

pub loop-word-init : goal.loop-word-init
loop-word-init c = record { few = omega arith; kept = refl; taken = taken_start _ }

pub loop-word-preserved : goal.loop-word-preserved
loop-word-preserved c =
    let l = c.loop-word in
    let value = c.value_of-v.ensures in record {
      few = omega arith;
      kept = simp length-set l.invariant.kept;
      taken = rw value (taken_next c.args.words.now l.words l.word-index l.bad c.unended.result c.zero_value.result l.invariant.taken
          (omega arith) l.invariant.kept c.unended.ensures.0 (rw value at c.zero_value.ensures.0));
    }
