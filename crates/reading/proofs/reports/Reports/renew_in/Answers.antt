use Rattle.std.proofs.Common.{rules, ◌≡◌, ℕ, ◌+◌, ◌-◌, ◌*◌, ◌/◌, ◌%◌, ◌<◌, ◌≤◌, ◌≢◌, None, length, set, get_or, sym, ap, ◌∙◌, subst, arith, below_more}
use Rattle.std.proofs.lemmas.Nat.{mul-le}
use Rattle.std.proofs.lemmas.List.{get_or-set_same, get_or-set_other, get_or_default}
use Rattle.quorums.specs.Sets.{members}
use Rattle.reading.specs.Reports.{cell, known, anew, put_at, renew_from}
use Rattle.reading.proofs.Cells.{put_cell}
use Rattle.reading.proofs.Enters.{row_of, place_of, renew_more, renew_none}
use Rattle.reading.proofs.reports.Reports.renew_in.Goals as goal

pub loop-i-preserved : goal.loop-i-preserved
loop-i-preserved g c =
    let old = c.args.self.now in
    let n = old.n in
    let f = anew g.S.Timestamp.above (members c.args.leading) (known g.S.Timestamp g.V.Value old) in
    let i = c.loop-i.i in
    let xs = c.loop-i.slots in
    let v = c.anew.result in
    let wide : c.from-width.result ≡ n = c.from-width.ensures in
    let more : i < n * n = subst (λ w. i < w * w) wide (omega arith) in
    let few : n * n ≤ g.row.ROOM = c.requires in
    let lt : i < length xs = omega (arith, more, few) in
    let at : i ≡ c.from.result = sym c.from.ensures in
    record {
      long = search rules;
      made =
          subst (λ m. (k : ℕ) → k < i + 1 → get_or (set xs m v) k None ≡ f (k / n) (k % n)) at
          (below_more _ _
          (λ k h. let ne : k ≢ i = omega arith in get_or-set_other xs i k v None ne ∙ c.loop-i.invariant.made k h)
          (get_or-set_same xs i v None lt ∙ subst (λ w. v ≡ f (i / w) (i % w)) wide c.anew.ensures));
    }

pub loop-j-init : goal.loop-j-init
loop-j-init g c =
    let old = c.args.self.now in
    let n = old.n in
    let f = anew g.S.Timestamp.above (members c.args.leading) (known g.S.Timestamp g.V.Value old) in
    let wide : n ≡ c.from-width.result = sym c.from-width.ensures in
    record {
      kept = search rules;
      cells = λ x k hx hk. renew_none f (cell n old.entries.now) n (c.from-width.result * c.from-width.result) x k hx (subst (λ w. n * n ≤ w * w) wide (omega arith));
    }

pub offset_bounds-slots-from-in-loop-j : goal.offset_bounds-slots-from-in-loop-j
offset_bounds-slots-from-in-loop-j g c =
    let n = c.args.self.now.n in
    let wide : c.from-width.result ≡ n = c.from-width.ensures in
    let more : c.loop-j.j ≤ n * n = subst (λ w. c.loop-j.j ≤ w * w) wide (omega arith) in
    let within : c.from-in-loop-j.result < length c.args.self.now.entries.now = grind (arith, mul-le n n n (n + 1)) in
    let lent : length c.loop-j.self.entries.now ≡ length c.args.self.now.entries.now = c.loop-j.self.room ∙ ap (λ m. m * (m + 1)) c.loop-j.invariant.kept.servers ∙ sym c.args.self.now.room in
    let inside : c.from-in-loop-j.result < length c.loop-j.self.entries.now = omega (arith, within, lent) in
    search rules

pub loop-j-preserved : goal.loop-j-preserved
loop-j-preserved g c =
    let old = c.args.self.now in
    let n = old.n in
    let f = anew g.S.Timestamp.above (members c.args.leading) (known g.S.Timestamp g.V.Value old) in
    let i = c.loop-j.j - 1 in
    let r = c.loop-j.self in
    let q = c.put.new.self in
    let size : r.n ≡ n = c.loop-j.invariant.kept.servers in
    let wide : c.from-width.result ≡ n = c.from-width.ensures in
    let more : i < n * n = subst (λ w. i < w * w) wide (omega arith) in
    let row : i / n < n = row_of n i more in
    let column : i % n < n = place_of n i more in
    let next : c.loop-j.j ≡ i + 1 = omega arith in
    let u = c.index-slots-from-in-loop-j.result in
    let v = get_or c.loop-i.slots c.from-in-loop-j.result u in
    let few : n * n ≤ g.row.ROOM = c.requires in
    let at : c.from-in-loop-j.result ≡ i = c.from-in-loop-j.ensures in
    let made : i < c.loop-i.i = omega arith in
    let long : i < length c.loop-i.slots = omega (arith, more, few) in
    let report : v ≡ f (i / n) (i % n) = ap (λ m. get_or c.loop-i.slots m u) at ∙ get_or_default c.loop-i.slots i u None long ∙ c.loop-i.invariant.made i made in
    let written = subst (λ w. q.entries.now ≡ set r.entries.now (i / w * (r.n + 1) + i % w) v) wide c.put.ensures.written in
    record {
      kept = search rules;
      cells = λ x k hx hk.
          ap (λ m. cell m q.entries.now x k) (sym size)
          ∙ put_cell r q (i / n) (i % n) v (omega arith) (omega arith) written x k (omega arith)
          ∙ ap (λ m. put_at (cell m r.entries.now) (i / n) (i % n) v x k) size
          ∙ ap (λ y. put_at (cell n r.entries.now) (i / n) (i % n) y x k) report
          ∙ renew_more f (cell n old.entries.now) (cell n r.entries.now) n i x k more
          (c.loop-j.invariant.cells x k hx hk ∙ ap (λ m. renew_from f n m (cell n old.entries.now) x k) next);
    }

pub returns-clause-after : goal.returns-clause-after
returns-clause-after g c x k hx hk =
    let old = c.args.self.now in
    let n = old.n in
    let f = anew g.S.Timestamp.above (members c.args.leading) (known g.S.Timestamp g.V.Value old) in
    let end : c.loop-j.j ≡ 0 = omega arith in
    c.loop-j.invariant.cells x k hx hk ∙ ap (λ m. renew_from f n m (cell n old.entries.now) x k) end
