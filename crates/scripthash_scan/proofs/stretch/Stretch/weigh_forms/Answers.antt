-- What longer forms would add is 0.
use Rattle.std.proofs.Common.{arith}
use Rattle.scripthash_scan.proofs.LawsLongest.{no_thirds, no_fourths}
use Rattle.scripthash_scan.proofs.LawsTotals.{by_two, by_three}
use Rattle.scripthash_scan.proofs.stretch.Stretch.weigh_forms.Goals as goal

pub returns-then-longest-le2 : goal.returns-then-longest-le2
returns-then-longest-le2 c =
    let a = c.args.self.now in
    let long = c.requires.1 in
    let third = no_thirds a.buf.now a.from a.to c.args.longest a.to long (omega arith) (omega arith) (omega arith) in
    let more = no_fourths a.buf.now a.from a.to c.args.longest a.to long (omega arith) (omega arith) (omega arith) in
    let weighs = c.weigh.ensures in
    (omega (arith, third, more.0, more.1, weighs.0, by_two a.buf.now a.from, by_two a.buf.now a.to), weighs.1)

pub returns-then-longest-le3 : goal.returns-then-longest-le3
returns-then-longest-le3 c =
    let a = c.args.self.now in
    let more = no_fourths a.buf.now a.from a.to c.args.longest a.to c.requires.1 (omega arith) (omega arith) (omega arith) in
    let weighs = c.weigh-then-longest-le3.ensures in
    (omega (arith, more.0, more.1, weighs.0, by_three a.buf.now a.from, by_three a.buf.now a.to), weighs.1)
