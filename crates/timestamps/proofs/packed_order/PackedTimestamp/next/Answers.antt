use Rattle.std.proofs.Common.{rules, ◌≡◌, sym, ap, ◌∙◌}
use Rattle.timestamps.specs.declared.packed.Packed.{Packed}
use Rattle.timestamps.specs.Laws.{higher}
use Rattle.timestamps.specs.PackedOrder.{packed_above, following}
use Rattle.timestamps.specs.PackedLaws.{packed_next, lowest_some, next_found}
use Rattle.timestamps.proofs.packed_order.PackedTimestamp.next.Goals as goal

pub returns : goal.returns
returns c =
    let client = c.args.client in
    let a = c.args.a in
    let b = c.args.b in
    let s = c.new.result in
    let found = next_found client c.max.result.number c.in_ok-number.number (search rules) in
    let top : c.max.result ≡ higher packed_above a b = search rules in
    let e : s.number ≡ following client (higher packed_above a b).number =
    c.new.ensures ∙ found.1 ∙ ap (λ (t : Packed). following client t.number) top in
    record { exact = sym (packed_next client a b s found.0 e); least = lowest_some client a b s found.0 e }
