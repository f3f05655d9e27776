-- A message that is posted, taken out and settled leaves the queue as it was. Assumes nothing.
use Rattle.std.proofs.Common.{◌≡◌, ℕ, ◌+◌, ◌-◌, ◌<◌, ◌≤◌, Bool, true, false, cond, not, ◌&&◌, ltb, leb, List, [], ◌∷◌, length, set, Some, None, Ok, Err, Option, Result, sym, refl, ap, ◌∙◌, subst, arith}
use Rattle.std.proofs.lemmas.List.{length-set, get_or-set_same}
use Rattle.std.proofs.lemmas.Bool.{true≢false, and_from, and_parts, cond-true, le-leb, leb-true, leb-false, lt-leb, lt-ltb}
use Rattle.std.proofs.lemmas.Grind.{common_steps}
use Rattle.calls.proofs.Checks.{passes_first}
use Rattle.calls.specs.Refusals.{first_failed}
use Rattle.calls.specs.declared.Refusal.{Refusal}
use Rattle.calls.specs.declared.Refusal.TheVariants.{Memory, NetworkFull, NoMessage, TokenOut}
use Rattle.network.specs.Queues.{sized, fits, post_checks, take_checks, longer, lifted_at, closed, closed_at, without, Posted}
use Rattle.network.specs.declared.queue.Network.{Network}
use Rattle.third.specs.Passing.{TakenOut, Passed}

-- a network that has nothing lifted
abbrev idle : ℕ → ℕ → Network
idle capacity len = record { capacity = capacity; len = len; lifted = None }

was_true : (b : Bool) → not b ≡ false → b ≡ true
was_true true e = refl
was_true false e = sym e

-- where a post is not refused, the capacity is within the memory and above the length
posted_room : (capacity len room : ℕ) → first_failed (post_checks (idle capacity len) room) ≡ None → (sized capacity room ≡ true) × (len < capacity) × (capacity ≤ room)
posted_room capacity len room ok =
    let net = idle capacity len in
    let first = passes_first (not (fits net room)) Memory ((false, TokenOut) ∷ (leb capacity len, NetworkFull) ∷ []) ok in
    let full = (passes_first (leb capacity len) NetworkFull [] first.1).0 in
    let size = (and_parts (sized capacity room) (leb len capacity && true) (was_true (fits net room) first.0)).0 in
    let within = (and_parts (leb capacity 4096) (leb capacity room) (and_parts (ltb 0 capacity) (leb capacity 4096 && leb capacity room) size).1).1 in
    (size, leb-false capacity len full, leb-true capacity room within)

-- the record with the posted message, and with it lifted, go with the memory
longer_fits : (capacity len room : ℕ) → sized capacity room ≡ true → len < capacity → fits (longer (idle capacity len)) room ≡ true
longer_fits capacity len room size low =
    and_from (sized capacity room) (leb (len + 1) capacity && true) size (and_from (leb (len + 1) capacity) true (le-leb (len + 1) capacity (omega arith)) refl)

lifted_fits : (capacity len room : ℕ) → sized capacity room ≡ true → len < capacity → fits (lifted_at (longer (idle capacity len)) len) room ≡ true
lifted_fits capacity len room size low =
    and_from (sized capacity room) (leb (len + 1) capacity && ltb len (len + 1)) size
    (and_from (leb (len + 1) capacity) (ltb len (len + 1)) (le-leb (len + 1) capacity (omega arith)) (lt-ltb len (len + 1) (omega arith)))

-- the posted message can be taken
take_passes : (capacity len room : ℕ) → sized capacity room ≡ true → len < capacity → first_failed (take_checks (longer (idle capacity len)) room len) ≡ None
take_passes capacity len room size low =
    ap (λ t. cond (not t) (Some Memory) (cond (leb (len + 1) len) (Some NoMessage) None)) (longer_fits capacity len room size low)
    ∙ ap (λ t. cond t (Some NoMessage) None) (lt-leb (len + 1) len (omega arith))

-- closed up over its last message, a queue leaves the memory as it is
last_closed : {M : Type 0} (row : List M) (len : ℕ) → len < length row → closed row len (len + 1) ≡ row
last_closed row len inside = grind (arith, common_steps)

-- taken out, the queue is as it was before the post
taken_out : {M : Type 0} (capacity len : ℕ) (memory : List M) (m : M) (r : Result M Refusal) (net' : Network) (memory' : List M)
    → first_failed (post_checks (idle capacity len) (length memory)) ≡ None
    → TakenOut (longer (idle capacity len)) (set memory len m) len r net' memory' → Passed (idle capacity len) memory m r net' memory'
taken_out capacity len memory m (Ok taken) net' memory' ok t =
    let room = posted_room capacity len (length memory) ok in
    let row = set memory len m in
    let long : length row ≡ length memory = length-set memory len m in
    let inside : len < length memory = omega (arith, room.1, room.2) in
    let net = lifted_at (longer (idle capacity len)) len in
    let fit = lifted_fits capacity len (length row) (ap (sized capacity) long ∙ room.0) room.1 in
    let same : len + 1 - 1 ≡ len = omega arith in (
      ok,
      t.1 ∙ get_or-set_same memory len m taken inside,
      t.2 ∙ cond-true (fits net (length row)) (without (Some len) net) net fit ∙ ap (idle capacity) same,
      t.3 ∙ cond-true (fits net (length row)) (closed_at (Some len) (len + 1) row) row fit
          ∙ last_closed row len (omega (arith, long, inside)),
    )
taken_out capacity len memory m (Err e) net' memory' ok t =
    let room = posted_room capacity len (length memory) ok in
    let row = set memory len m in
    let size : sized capacity (length row) ≡ true = ap (sized capacity) (length-set memory len m) ∙ room.0 in
    let clash : ◌≡◌ {A = Option Refusal} None (Some e) = sym (take_passes capacity len (length row) size room.1) ∙ t.0 in
    let z : ◌≡◌ {A = ℕ} 0 1 = cc in
    absurd (omega arith)

-- whatever is lifted: a post that is not refused finds nothing lifted
any_lifted : {M : Type 0} (capacity len : ℕ) (lifted : Option ℕ) (memory : List M) (m : M) (r : Result M Refusal) (net' : Network) (memory' : List M) →
    let net : Network = record { capacity = capacity; len = len; lifted = lifted } in
    first_failed (post_checks net (length memory)) ≡ None
    → TakenOut (longer net) (set memory len m) len r net' memory' → Passed net memory m r net' memory'
any_lifted capacity len None memory m r net' memory' ok t = taken_out capacity len memory m r net' memory' ok t
any_lifted capacity len (Some place) memory m r net' memory' ok t =
    let net : Network = record { capacity = capacity; len = len; lifted = Some place } in
    let rest = (leb capacity len, NetworkFull) ∷ [] in
    let first = passes_first (not (fits net (length memory))) Memory ((true, TokenOut) ∷ rest) ok in
    let z : ◌≡◌ {A = Bool} true false = (passes_first true TokenOut rest first.1).0 in
    absurd (true≢false z)

-- posted, and then taken out
pub passed_on : {M : Type 0} (net net' net'' : Network) (memory memory' memory'' : List M) (m : M) (r : Result M Refusal)
    → Posted net memory m (Ok tt) net' memory' → TakenOut net' memory' net.len r net'' memory'' → Passed net memory m r net'' memory''
passed_on net net' net'' memory memory' memory'' m r posted t =
    let P : Network → Type 0 = λ n. TakenOut n memory' net.len r net'' memory'' in
    let Q : List _ → Type 0 = λ row. TakenOut (longer net) row net.len r net'' memory'' in
    any_lifted net.capacity net.len net.lifted memory m r net'' memory'' posted.0 (subst Q posted.2 (subst P posted.1 t))
