-- The pair of a STORE passed on, client by client. Assumes nothing.
use Rattle.std.proofs.Common.{◌≡◌, ℕ, zero, suc, ◌+◌, ◌-◌, ◌<◌, ◌≤◌, Bool, true, false, cond, not, ◌&&◌, ◌||◌, eqb, ltb, leb, List, [], ◌∷◌, ◌++◌, length, get_or, set, is_some, Some, None, Option, Ok, sym, refl, ap, ◌∙◌, ap₂, inl, inr, add-one, arith}
use mathlib.Core.Path.{fun_ext}
use Rattle.std.specs.List.{count_by}
use Rattle.std.proofs.lemmas.List.Recursion.{is_count_by}
use Rattle.std.proofs.lemmas.List.{append-nil, length-append, get_or_read, get_or-set_same, get_or-set_other}
use Rattle.std.proofs.lemmas.Bool.{cond-true, cond-false, cases_eq, eq-eqb, ne_eqb, and_parts, or_parts, not-false, both_ways, ltb-false, leb-false, leb-true}
use Rattle.calls.specs.Refusals.{first_failed, passed as passed_checks}
use Rattle.calls.specs.declared.Refusal.{Refusal}
use Rattle.calls.specs.declared.Refusal.TheVariants.{Memory, NetworkFull, TokenOut}
use Rattle.calls.proofs.Checks.{passes_first}
use Rattle.network.specs.Queues.{sized, below, fits, Room}
use Rattle.network.specs.declared.message.Message.{Message}
use Rattle.network.specs.declared.queue.Network.{Network}
use Rattle.server.specs.declared.state.Listener.{Listener}
use Rattle.server.specs.Serving.{silent, updated, wants, wanting, passed, passed_on}
use Rattle.server.specs.Receiving.{listener_in, receive_checks}

module _ {S : Type 0} (above : S → S → Bool) (f : ℕ → Listener S) (t : S) where
  -- one client more
  pub wanting_more : (i : ℕ) → wanting above f t (i + 1) ≡ wanting above f t i + cond (wants above (f i) t) 1 0
  wanting_more i = ap (wanting above f t) (add-one i)

  -- the first client, and those behind it
  pub wanting_first : (n : ℕ) → wanting above f t (suc n) ≡ cond (wants above (f 0) t) 1 0 + wanting above (λ i. f (suc i)) t n
  wanting_first zero = omega arith
  wanting_first (suc n) = omega (arith, wanting_first n)

  -- no fewer for more clients
  wanting_grows : (i k : ℕ) → wanting above f t i ≤ wanting above f t (i + k)
  wanting_grows i zero = let e : i ≡ i + 0 = omega arith in let h = ap (wanting above f t) e in omega arith
  wanting_grows i (suc k) =
      let e : i + k + 1 ≡ i + suc k = omega arith in
      let h = ap (wanting above f t) e in
      omega (arith, wanting_grows i k, wanting_more (i + k))

  -- a client that wants the timestamp is counted among all
  pub wanting_within : (i n k : ℕ) → i + 1 + k ≡ n → wants above (f i) t ≡ true → wanting above f t i + 1 ≤ wanting above f t n
  wanting_within i n k sum want =
      let one : wanting above f t (i + 1) ≡ wanting above f t i + 1 = wanting_more i ∙ ap (λ x. wanting above f t i + x) (cond-true (wants above (f i) t) 1 0 want) in
      let h = ap (wanting above f t) sum in
      omega (arith, one, wanting_grows (i + 1) k)

-- how many listeners of a row want a timestamp
pub wanting_counted : {S : Type 0} (above : S → S → Bool) (lowest t : S) (row : List (Listener S))
    → count_by (λ x. wants above x t) row ≡ wanting above (listener_in lowest row) t (length row)
wanting_counted {S} above lowest t row =
    let F : List (Listener S) → ℕ = λ row. wanting above (listener_in lowest row) t (length row) in
    sym (is_count_by F (λ x. wants above x t) refl (λ x xs. one x xs) row)
  where
    added : (b : Bool) (n : ℕ) → cond b 1 0 + n ≡ cond b (1 + n) n
    added true n = omega arith
    added false n = omega arith

    one : (x : Listener S) (xs : List (Listener S))
        → wanting above (listener_in lowest (x ∷ xs)) t (length (x ∷ xs))
        ≡ cond (wants above x t) (1 + wanting above (listener_in lowest xs) t (length xs)) (wanting above (listener_in lowest xs) t (length xs))
    one x xs = wanting_first above (listener_in lowest (x ∷ xs)) t (length xs) ∙ added (wants above x t) (wanting above (listener_in lowest xs) t (length xs))

module _ {S V : Type 0} (above : S → S → Bool) (m : Message S V) (f : ℕ → Listener S) where
  -- a client that wants the pair gets it behind those before it
  pub passed_yes : (i : ℕ) → wants above (f i) m.timestamp ≡ true → passed_on above m f (i + 1) ≡ passed_on above m f i ++ passed m i (f i) ∷ []
  passed_yes i want =
      ap (passed_on above m f) (add-one i) ∙ ap (λ l. passed_on above m f i ++ l) (cond-true (wants above (f i) m.timestamp) (passed m i (f i) ∷ []) [] want)

  -- a client that does not want the pair gets nothing
  pub passed_no : (i : ℕ) → wants above (f i) m.timestamp ≡ false → passed_on above m f (i + 1) ≡ passed_on above m f i
  passed_no i spare =
      ap (passed_on above m f) (add-one i)
      ∙ ap (λ l. passed_on above m f i ++ l) (cond-false (wants above (f i) m.timestamp) (passed m i (f i) ∷ []) [] spare) ∙ append-nil (passed_on above m f i)

  at_one : (b : Bool) (x : Message S V) → length (cond b (x ∷ []) []) ≡ cond b 1 0
  at_one true x = refl
  at_one false x = refl

  -- as many messages as there are clients that want the timestamp
  pub passed_count : (i : ℕ) → length (passed_on above m f i) ≡ wanting above f m.timestamp i
  passed_count zero = refl
  passed_count (suc i) =
      length-append (passed_on above m f i) (cond (wants above (f i) m.timestamp) (passed m i (f i) ∷ []) [])
      ∙ ap₂ (λ x y. x + y) (passed_count i) (at_one (wants above (f i) m.timestamp) (passed m i (f i)))

-- the listener that a row has for a client, as it was read
pub listener_read : {S : Type 0} (lowest : S) (row : List (Listener S)) (i : ℕ) (x : Listener S) → i < length row → x ≡ get_or row i x → listener_in lowest row i ≡ x
listener_read lowest row i x within read = sym (get_or_read row i x within read (silent lowest))

-- room for all who want the pair is room for the next of them
pub room_next : {S V : Type 0} (above : S → S → Bool) (m : Message S V) (f : ℕ → Listener S) (net : Network) (room i n : ℕ)
    → i < n → wants above (f i) m.timestamp ≡ true → Room net room (wanting above f m.timestamp n)
    → Room net room (length (passed_on above m f i) + 1)
room_next above m f net room i n within want r =
    let fewer = wanting_within above f m.timestamp i n (n - (i + 1)) (omega arith) want in
    record { sizes = r.sizes; none_lifted = r.none_lifted; left = omega (arith, r.left, fewer, passed_count above m f i) }

-- a row with another listener for a client
pub listener_set : {S : Type 0} (lowest : S) (row : List (Listener S)) (client : ℕ) (x : Listener S) → client < length row
    → listener_in lowest (set row client x) ≡ updated (listener_in lowest row) client x
listener_set lowest row client x within = fun_ext (λ j. at j)
  where
    at : (j : ℕ) → listener_in lowest (set row client x) j ≡ updated (listener_in lowest row) client x j
    at j = elim (cases_eq client j) [
      | inl same ↦
          ap (λ k. get_or (set row client x) k (silent lowest)) (sym same) ∙ get_or-set_same row client x (silent lowest) within
          ∙ sym (cond-true (eqb client j) x (listener_in lowest row j) (eq-eqb client j same))
      | inr other ↦
          get_or-set_other row client j x (silent lowest) (λ e. other (sym e)) ∙ sym (cond-false (eqb client j) x (listener_in lowest row j) (ne_eqb client j other))
    ]

-- room for more messages is room for fewer
pub room_fewer : (net : Network) (room more fewer : ℕ) → fewer ≤ more → Room net room more → Room net room fewer
room_fewer net room more fewer le r = record { sizes = r.sizes; none_lifted = r.none_lifted; left = omega (arith, r.left) }

-- where nothing is refused, no check fails
pub none_failed : (o : Option Refusal) (u : Unit) → passed_checks o ≡ Ok u → o ≡ None
none_failed None u e = refl
none_failed (Some x) u e = let z : ◌≡◌ {A = ℕ} 0 1 = cc in absurd (omega arith)

-- where no check of a received message fails, its client is in the row and there is room for what is sent
pub checks_passed : (net : Network) (room clients client sending : ℕ) → first_failed (receive_checks net room clients client sending) ≡ None
    → (clients ≤ 64) × (client < clients) × Room net room sending
checks_passed net room clients client sending passed =
    let unlimited = ltb 64 clients || leb clients client in
    let memory = passes_first (not (fits net room) || unlimited) Memory
    ((is_some net.lifted, TokenOut) ∷ ((ltb (net.capacity - net.len) sending, NetworkFull) ∷ [])) passed in
    let token = passes_first (is_some net.lifted) TokenOut ((ltb (net.capacity - net.len) sending, NetworkFull) ∷ []) memory.1 in
    let full = passes_first (ltb (net.capacity - net.len) sending) NetworkFull [] token.1 in
    let either = or_parts (not (fits net room)) unlimited memory.0 in
    let limits = or_parts (ltb 64 clients) (leb clients client) either.1 in
    let fitting : fits net room ≡ true = not-false (fits net room) either.0 in
    let parts = and_parts (sized net.capacity room) (leb net.len net.capacity && below net.lifted net.len) fitting in
    let inner = and_parts (leb net.len net.capacity) (below net.lifted net.len) parts.1 in (
      ltb-false 64 clients limits.0,
      leb-false clients client limits.1,
      record {
        sizes = parts.0;
        none_lifted = none_here net.lifted token.0;
        left = omega (arith, leb-true net.len net.capacity inner.0, ltb-false (net.capacity - net.len) sending full.0);
      },
    )
  where
    none_here : (o : Option ℕ) → is_some o ≡ false → o ≡ None
    none_here None e = refl
    none_here (Some x) e = absurd (both_ways true e refl)
