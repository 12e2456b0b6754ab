use Rattle.std.proofs.Common.{sym, arith}
use Rattle.free_runs.specs.Freed.{pages_of}
use Rattle.free_runs.proofs.LawsSparse.{collects_own}
use Rattle.free_runs.proofs.search.look_far.Goals as goal

pub returns : goal.returns
returns c =
    let a = c.args in
    let list = a.list.now in
    let got = c.collect-count.ensures in
    let high = got.high in
    record {
      passed = sym c.requires.judged;
      looks = record {
        sought = c.scan_kept-start.ensures (pages_of list) (collects_own _ _ _ _ _ _ got (omega arith));
        more = omega arith;
        inside = high;
        limit = high;
        none_between = λ p l h. absurd (omega arith);
      };
    }
