-- `load_run` meets its contract: the list for the ranges is long enough.
use Rattle.std.proofs.Common.{◌≡◌, sym, ap, ◌∙◌, length, take, replicate}
use Rattle.error.specs.Refusal.{accepted}
use Rattle.error.proofs.LawsAnswer.{refused≢accepted}
use Rattle.scripthash_cutting.specs.Cutting.{cutting}
use Rattle.scripthash_cutting.specs.Answers.{chunk_answer}
use Rattle.book_blocks.proofs.LawsWrites.{ranges_cut}
use Rattle.book_load.proofs.LawsLoad.{all_cut}
use Rattle.book_load.proofs.loading.load_run.Goals as goal

pub returns-in_err-count : goal.returns-in_err-count
returns-in_err-count c =
    absurd (refused≢accepted (c.in_err-count.ensures.answer ∙ all_cut c.args.fks.now c.requires.judged))

pub load_parts-requires : goal.load_parts-requires
load_parts-requires c =
    let pre = c.requires in
    let (parts, ranges) = ranges_cut (replicate 163 (replicate 2 0)) c.args.fks.now c.in_ok-count.count (sym c.in_ok-count.ensures.answer) in
    record {
      to_load = pre.to_load;
      cut = record {
        judged = pre.judged;
        some_fks = pre.some_fks;
        parts = parts;
        ranges_are = ap (take c.in_ok-count.count) c.in_ok-count.ensures.list ∙ ranges;
      };
    }
