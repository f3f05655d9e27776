-- A queue from which a message is lifted, settled, and followed by others. Assumes nothing.
use Rattle.std.proofs.Common.{◌≡◌, ℕ, zero, suc, ◌+◌, ◌-◌, ◌<◌, ◌≤◌, true, false, cond, not, ◌&&◌, ◌||◌, ltb, leb, List, [], ◌∷◌, ◌++◌, length, append-nil, get_or, take, drop, is_some, Some, None, Ok, Err, Option, Result, sym, refl, ap, ◌∙◌, ap₂, arith}
use Rattle.std.specs.List.{remove}
use Rattle.std.proofs.lemmas.List.Edits.{length-remove}
use Rattle.std.proofs.lemmas.List.{get_or-take, take_at, drop_at, length-append, length-drop, length-take-le}
use Rattle.std.proofs.lemmas.Bool.{and_parts, cond-true, leb-true, le-ltb, lt-leb, ltb-true}
use Rattle.calls.specs.Refusals.{first_failed}
use Rattle.calls.specs.declared.Refusal.{Refusal}
use Rattle.calls.specs.declared.Refusal.TheVariants.{Memory, NetworkFull, TokenOut}
use Rattle.network.specs.Queues.{sized, below, fits, closed, closed_at, closed_up, without, settled, restored, send_checks, queue, Room, Sent}
use Rattle.network.specs.declared.message.Message.{Message}
use Rattle.network.specs.declared.queue.Network.{Network}
use Rattle.network.proofs.Sending.{room_fits}
use Rattle.protocol.specs.Protocol.{lift, lifted}
use Rattle.client.specs.Showing.{messages_of}
use Rattle.client.specs.Sending.{Dispatched}
use Rattle.client.specs.declared.state.Broadcast.{Broadcast}
use Rattle.server.specs.Receiving.{receive_checks}
use Rattle.delivery.specs.Handing.{room_without, put_down, Replaced}
use Rattle.network.proofs.Sending.{drop_later}

-- the message at a place, and the queue without it
lift_at : {M : Type 0} (place : ℕ) (xs : List M) (d : M) → place < length xs → lift place xs ≡ Some (get_or xs place d, remove xs place)
lift_at place [] d inside = absurd (omega arith)
lift_at zero (x ∷ xs) d inside = refl
lift_at (suc place) (x ∷ xs) d inside = ap (lifted x) (lift_at place xs d (omega arith))

-- past the queue there is no message
pub lift_past : {M : Type 0} (place : ℕ) (xs : List M) → length xs ≤ place → lift place xs ≡ None
lift_past place [] past = refl
lift_past zero (x ∷ xs) past = absurd (omega arith)
lift_past (suc place) (x ∷ xs) past = ap (lifted x) (lift_past place xs (omega arith))

-- the message at a place of the memory, and the queue without it
pub lift_queue : {M : Type 0} (place len : ℕ) (memory : List M) (message : M) → place < len → len ≤ length memory → message ≡ get_or memory place message
    → lift place (take len memory) ≡ Some (message, remove (take len memory) place)
lift_queue place len memory message inside long is =
    lift_at place (take len memory) message (omega (arith, length-take-le len memory long))
    ∙ ap (λ x. Some (x, remove (take len memory) place)) (get_or-take len memory place message inside ∙ sym is)

-- what a record says that goes with its memory
pub record Fitting (net : Network) (room place : ℕ) : Type 0 where
  pub sizes : sized net.capacity room ≡ true
  pub inside : place < net.len
  pub few : net.len ≤ net.capacity
  pub within : net.capacity ≤ room

pub fitting : (net : Network) (room place : ℕ) → fits net room ≡ true → net.lifted ≡ Some place → Fitting net room place
fitting net room place fit is =
    let both = and_parts (sized net.capacity room) (leb net.len net.capacity && below net.lifted net.len) fit in
    let rest = and_parts (leb net.len net.capacity) (below net.lifted net.len) both.1 in
    let wide = and_parts (ltb 0 net.capacity) (leb net.capacity 4096 && leb net.capacity room) both.0 in
    record {
      sizes = both.0;
      inside = ltb-true place net.len (ap (λ o. below o net.len) (sym is) ∙ rest.1);
      few = leb-true net.len net.capacity rest.0;
      within = leb-true net.capacity room (and_parts (leb net.capacity 4096) (leb net.capacity room) wide.1).1;
    }

module _ {M : Type 0} (net : Network) (memory : List M) (place : ℕ) (fit : fits net (length memory) ≡ true) (is : net.lifted ≡ Some place) where
  -- the queue without the lifted message
  pub length_without : length (remove (take net.len memory) place) ≡ net.len - 1
  length_without =
      let f = fitting net (length memory) place fit is in
      let long = length-take-le net.len memory (omega (arith, f.few, f.within)) in
      omega (arith, long, f.inside, length-remove (take net.len memory) place (omega (arith, long, f.inside)))

  -- the record once the lifted message is settled
  pub settled_as : settled net (length memory) ≡ record { capacity = net.capacity; len = net.len - 1; lifted = None }
  settled_as = cond-true (fits net (length memory)) (without net.lifted net) net fit ∙ ap (λ o. without o net) is

  -- the memory once the lifted message is settled
  pub closed_as : closed_up net memory ≡ closed memory place net.len
  closed_as = cond-true (fits net (length memory)) (closed_at net.lifted net.len memory) memory fit ∙ ap (λ o. closed_at o net.len memory) is

  pub length-closed : length (closed memory place net.len) ≡ length memory
  length-closed =
      let f = fitting net (length memory) place fit is in
      omega (arith, f.few, f.within, f.inside, length_without, length-append (remove (take net.len memory) place) (drop (net.len - 1) memory), length-drop (net.len - 1) memory)

  -- settled, there is room for what follows
  pub room_settled : (net' : Network) (memory' : List M) (more : ℕ) → net' ≡ settled net (length memory) → memory' ≡ closed_up net memory
      → more ≤ room_without net → Room net' (length memory') more
  room_settled net' memory' more net-is memory-is small =
      let f = fitting net (length memory) place fit is in
      let now_is = net-is ∙ settled_as in
      let len_is : net'.len ≡ net.len - 1 = ap (λ n. n.len) now_is in
      let capacity_is : net'.capacity ≡ net.capacity = ap (λ n. n.capacity) now_is in
      record {
        sizes = ap₂ sized capacity_is (ap length (memory-is ∙ closed_as) ∙ length-closed) ∙ f.sizes;
        none_lifted = ap (λ n. n.lifted) now_is;
        left = omega (arith, len_is, capacity_is, f.few, f.inside, small);
      }

  -- settled, and followed by others
  pub replaced : (net' net'' : Network) (memory' memory'' sent : List M) → net' ≡ settled net (length memory) → memory' ≡ closed_up net memory
      → Sent net' memory' sent net'' memory'' → Replaced net memory place sent net'' memory''
  replaced net' net'' memory' memory'' sent net-is memory-is s =
      let now_is = net-is ∙ settled_as in
      let row_is = memory-is ∙ closed_as in
      let len_is : net'.len ≡ net.len - 1 = ap (λ n. n.len) now_is in
      let last_is : net''.len ≡ net'.len + length sent = ap (λ n. n.len) s.record_after in
      let back : drop (net.len - 1) memory' ≡ drop (net.len - 1) memory = ap (drop (net.len - 1)) row_is ∙ drop_at (remove (take net.len memory) place) (drop (net.len - 1) memory) (net.len - 1) length_without in
      record {
        record_after = s.record_after ∙ ap (λ n. record { capacity = n.capacity; len = n.len + length sent; lifted = n.lifted }) now_is;
        queue_after = s.queue_after
            ∙ ap (λ l. l ++ sent) (ap₂ take len_is row_is ∙ take_at (remove (take net.len memory) place) (drop (net.len - 1) memory) (net.len - 1) length_without);
        rest_after = s.rest_after ∙ drop_later memory' memory (net.len - 1) net''.len (omega (arith, len_is, last_is)) back;
        length_after = s.length_after ∙ ap length row_is ∙ length-closed;
      }

  -- put back, the record is as it was before the message was lifted
  pub restored_as : restored net (length memory) ≡ put_down net
  restored_as = cond-true (fits net (length memory)) (put_down net) net fit

-- with room, the checks of sending pass
send_passes : (net : Network) (room more : ℕ) → Room net room more → first_failed (send_checks net room more) ≡ None
send_passes net room more r =
    let full : ltb (net.capacity - net.len) more ≡ false = le-ltb (net.capacity - net.len) more (omega (arith, r.left)) in
    ap (λ t. cond (not t) (Some Memory) (cond (is_some net.lifted) (Some TokenOut) (cond (ltb (net.capacity - net.len) more) (Some NetworkFull) None))) (room_fits net room more r)
    ∙ ap (λ o. cond (is_some o) (Some TokenOut) (cond (ltb (net.capacity - net.len) more) (Some NetworkFull) None)) r.none_lifted
    ∙ ap (λ t. cond t (Some NetworkFull) None) full

-- where nothing is sent, all stays
pub sent_none : {M : Type 0} (net : Network) (memory : List M) → Sent net memory [] net memory
sent_none net memory = record {
  record_after = ap (λ k. record { capacity = net.capacity; len = k; lifted = net.lifted }) (omega arith);
  queue_after = sym (append-nil (queue net memory));
  rest_after = refl;
  length_after = refl;
}

-- with room, a broadcast is sent
pub dispatched_sent : {S V : Type 0} (n client : ℕ) (x : Broadcast S V) (net net' : Network) (memory memory' : List (Message S V)) (r : Result Unit Refusal)
    → Room net (length memory) n → Dispatched n client x net memory r net' memory' → Sent net memory (messages_of n client (Some x)) net' memory'
dispatched_sent n client x net net' memory memory' (Ok u) room d = d.1
dispatched_sent n client x net net' memory memory' (Err e) room d =
    let clash : ◌≡◌ {A = Option Refusal} None (Some e) = sym (send_passes net (length memory) n room) ∙ d.0 in
    let z : ◌≡◌ {A = ℕ} 0 1 = cc in
    absurd (omega arith)

-- with room, the checks of a server pass
pub receive_passes : (net : Network) (room clients client more : ℕ) → Room net room more → clients ≤ 64 → client < clients → first_failed (receive_checks net room clients client more) ≡ None
receive_passes net room clients client more r most there =
    let full : ltb (net.capacity - net.len) more ≡ false = le-ltb (net.capacity - net.len) more (omega (arith, r.left)) in
    let named : (ltb 64 clients || leb clients client) ≡ false = ap₂ (λ s t. s || t) (le-ltb 64 clients most) (lt-leb clients client there) in
    ap₂ (λ s t. cond (not s || t) (Some Memory) (cond (is_some net.lifted) (Some TokenOut) (cond (ltb (net.capacity - net.len) more) (Some NetworkFull) None))) (room_fits net room more r) named
    ∙ ap (λ o. cond (is_some o) (Some TokenOut) (cond (ltb (net.capacity - net.len) more) (Some NetworkFull) None)) r.none_lifted
    ∙ ap (λ t. cond t (Some NetworkFull) None) full
