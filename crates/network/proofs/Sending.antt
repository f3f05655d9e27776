-- Messages that join a queue with room for them. Assumes nothing.
use Rattle.std.proofs.Common.{◌≡◌, ℕ, ◌+◌, ◌-◌, ◌<◌, ◌≤◌, true, false, cond, not, ◌&&◌, ltb, leb, List, [], ◌∷◌, ◌++◌, length, take, drop, is_some, Some, None, Ok, Err, Option, Result, sym, refl, ap, ◌∙◌, ap₂, append_assoc, arith}
use Rattle.std.proofs.lemmas.List.{append-nil, take_more_set, drop-set-lt, drop-drop, length-set, length-append}
use Rattle.std.proofs.lemmas.Bool.{lt-leb, le-leb, leb-true, and_from, and_parts}
use Rattle.calls.specs.Refusals.{first_failed}
use Rattle.calls.specs.declared.Refusal.{Refusal}
use Rattle.calls.specs.declared.Refusal.TheVariants.{Memory, NetworkFull, TokenOut}
use Rattle.network.specs.declared.queue.Network.{Network}
use Rattle.network.specs.Queues.{sized, below, fits, post_checks, Posted, Room, Sent, queue}

-- a network with room goes with its memory
pub room_fits : (net : Network) (room more : ℕ) → Room net room more → fits net room ≡ true
room_fits net room more r =
    and_from (sized net.capacity room) (leb net.len net.capacity && below net.lifted net.len) r.sizes
    (and_from (leb net.len net.capacity) (below net.lifted net.len) (le-leb net.len net.capacity (omega (arith, r.left))) (ap (λ o. below o net.len) r.none_lifted))

-- a capacity that is within the memory
sized_within : (capacity room : ℕ) → sized capacity room ≡ true → capacity ≤ room
sized_within capacity room s =
    leb-true capacity room (and_parts (leb capacity 4096) (leb capacity room) (and_parts (ltb 0 capacity) (leb capacity 4096 && leb capacity room) s).1).1

-- with room for one more, no check of a post fails
pub post_passes : (net : Network) (room : ℕ) → Room net room 1 → first_failed (post_checks net room) ≡ None
post_passes net room r =
    let full : leb net.capacity net.len ≡ false = lt-leb net.capacity net.len (omega (arith, r.left)) in
    ap (λ t. cond (not t) (Some Memory) (cond (is_some net.lifted) (Some TokenOut) (cond (leb net.capacity net.len) (Some NetworkFull) None))) (room_fits net room 1 r)
    ∙ ap (λ o. cond (is_some o) (Some TokenOut) (cond (leb net.capacity net.len) (Some NetworkFull) None)) r.none_lifted
    ∙ ap (λ t. cond t (Some NetworkFull) None) full

-- a post with room for it is a message sent
pub posted_sent : {M : Type 0} (net net' : Network) (memory memory' : List M) (message : M) (r : Result Unit Refusal)
    → Room net (length memory) 1 → Posted net memory message r net' memory' → Sent net memory (message ∷ []) net' memory'
posted_sent net net' memory memory' message (Ok u) room posted =
    let long : net.capacity ≤ length memory = sized_within net.capacity (length memory) room.sizes in
    let inside : net.len < length memory = omega (arith, room.left) in
    let len_is : net'.len ≡ net.len + 1 = ap (λ n. n.len) posted.1 in
    record {
      record_after = posted.1;
      queue_after = ap (λ k. take k memory') len_is ∙ ap (take (net.len + 1)) posted.2 ∙ take_more_set memory net.len message inside;
      rest_after =
          ap (drop net'.len) posted.2 ∙ drop-set-lt net'.len memory net.len message (omega (arith, len_is));
      length_after = ap length posted.2 ∙ length-set memory net.len message;
    }
posted_sent net net' memory memory' message (Err e) room posted =
    let clash : ◌≡◌ {A = Option Refusal} None (Some e) = sym (post_passes net (length memory) room) ∙ posted.0 in
    let z : ◌≡◌ {A = ℕ} 0 1 = cc in
    absurd (omega arith)

-- no message sent
pub sent_none : {M : Type 0} (net : Network) (memory : List M) → Sent net memory [] net memory
sent_none net memory = record {
  record_after = ap (λ k. record { capacity = net.capacity; len = k; lifted = net.lifted }) (let e : net.len ≡ net.len + 0 = omega arith in e);
  queue_after = sym (append-nil (queue net memory));
  rest_after = refl;
  length_after = refl;
}

-- where two parts agree from i on, they agree from any later place on
pub drop_later : {M : Type 0} (xs ys : List M) (i j : ℕ) → i ≤ j → drop i xs ≡ drop i ys → drop j xs ≡ drop j ys
drop_later xs ys i j later same =
    let split : i + (j - i) ≡ j = omega arith in
    ap (λ k. drop k xs) (sym split) ∙ sym (drop-drop (j - i) i xs) ∙ ap (drop (j - i)) same ∙ drop-drop (j - i) i ys ∙ ap (λ k. drop k ys) split

-- some messages sent, and then some more
pub sent_then : {M : Type 0} (net net' net'' : Network) (memory memory' memory'' first second : List M)
    → Sent net memory first net' memory' → Sent net' memory' second net'' memory'' → Sent net memory (first ++ second) net'' memory''
sent_then net net' net'' memory memory' memory'' first second a b =
    let len_one : net'.len ≡ net.len + length first = ap (λ n. n.len) a.record_after in
    let len_two : net''.len ≡ net'.len + length second = ap (λ n. n.len) b.record_after in
    let total : net''.len ≡ net.len + length (first ++ second) = omega (arith, len_one, len_two, length-append first second) in
    let capacity_is : net''.capacity ≡ net.capacity = ap (λ n. n.capacity) b.record_after ∙ ap (λ n. n.capacity) a.record_after in
    let lifted_is : net''.lifted ≡ net.lifted = ap (λ n. n.lifted) b.record_after ∙ ap (λ n. n.lifted) a.record_after in
    record {
      record_after = λ i. record { capacity = capacity_is i; len = total i; lifted = lifted_is i };
      queue_after = b.queue_after ∙ ap (λ l. l ++ second) a.queue_after ∙ append_assoc (queue net memory) first second;
      rest_after = b.rest_after ∙ drop_later memory' memory net'.len net''.len (omega (arith, len_two)) a.rest_after;
      length_after = b.length_after ∙ a.length_after;
    }

-- the room that is left once messages are sent
pub room_after : {M : Type 0} (net net' : Network) (memory memory' messages : List M) (more : ℕ)
    → Sent net memory messages net' memory' → Room net (length memory) (length messages + more) → Room net' (length memory') more
room_after net net' memory memory' messages more sent room =
    let len_is : net'.len ≡ net.len + length messages = ap (λ n. n.len) sent.record_after in
    let capacity_is : net'.capacity ≡ net.capacity = ap (λ n. n.capacity) sent.record_after in
    record {
      sizes = ap₂ sized capacity_is sent.length_after ∙ room.sizes;
      none_lifted = ap (λ n. n.lifted) sent.record_after ∙ room.none_lifted;
      left = omega (arith, len_is, capacity_is, room.left);
    }
