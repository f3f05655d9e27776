-- The memory of a register just opened. Assumes nothing.
use Rattle.std.proofs.Common.{◌≡◌, ℕ, ◌+◌, ◌-◌, ◌*◌, ◌<◌, ◌≤◌, Bool, true, ltb, List, [], ◌∷◌, ◌++◌, length, get_or, take, drop, set, replicate, Err, Result, not, sym, refl, ap, ◌∙◌, subst, ap₂, inl, inr, arith}
use mathlib.Core.Path.{fun_ext}
use Rattle.std.specs.Result.{IsErrAnd}
use Rattle.std.proofs.lemmas.List.{get_or_append_left, get_or-replicate, get_or-take, get_or-drop, get_or_past, length-take, length-replicate, length-append, length-drop, set-append_right, drop_more, replicate_more, append_assoc}
use Rattle.std.proofs.lemmas.Bool.{cases_lt, cond-true, cond-false, lt-ltb, le-ltb}
use Rattle.calls.specs.Refusals.{first_failed, passed}
use Rattle.calls.specs.declared.Refusal.{Refusal}
use Rattle.calls.specs.declared.Refusal.TheVariants.{Memory}
use Rattle.calls.proofs.Refusing.{err_as}
use Rattle.server.specs.Serving.{silent}
use Rattle.server.specs.Receiving.{listener_in, state_of}
use Rattle.server.specs.declared.state.Listener.{Listener}
use Rattle.server.specs.declared.state.Server.{Server}
use Rattle.reading.specs.Reports.{Report}
use Rattle.reading.specs.Readings.{unread}
use Rattle.reading.specs.Reports.{view}
use Rattle.protocol.specs.Clients as protocol
use Rattle.client.specs.Showing.{client_of}
use Rattle.client.specs.declared.state.Client.{Client}
use Rattle.quorums.specs.Sets.{members, none}
use Rattle.protocol.specs.Settings.{Setting}
use Rattle.delivery.specs.Memory.{Lent, lent, part, new_server, new_client, servers_of, clients_of, enough}
use Rattle.delivery.proofs.Parts.{part_end}
use Rattle.register.specs.declared.record.Register.{Register}
use Rattle.register.specs.Calling.{OpenedWith, Opened}
use Rattle.register.proofs.Enough.{parts, still_enough}
use Rattle.register.proofs.Replies.{one_refuses}

-- one entry more is set
pub reset_more : {A : Type 0} (old : List A) (i : ℕ) (v : A) → i < length old → set (replicate i v ++ drop i old) i v ≡ replicate (i + 1) v ++ drop (i + 1) old
reset_more old i v inside =
    let zero : i - i ≡ 0 = omega arith in
    set-append_right (replicate i v) (drop i old) i i v (length-replicate i v) (omega arith)
    ∙ ap (λ k. replicate i v ++ set (drop i old) k v) zero
    ∙ ap (λ l. replicate i v ++ set l 0 v) (drop_more old i v inside)
    ∙ sym (append_assoc (replicate i v) (v ∷ []) (drop (i + 1) old))
    ∙ ap (λ l. l ++ drop (i + 1) old) (replicate_more i v)

-- an entry that is set, or past the end of the list
pub set_up : {A : Type 0} (n i : ℕ) (v : A) (rest : List A) → i < n → get_or (replicate n v ++ rest) i v ≡ v
set_up n i v rest inside =
    let l : i < length (replicate n v) = omega (arith, length-replicate n v) in
    get_or_append_left (replicate n v) rest v i l ∙ get_or-replicate n i v v inside

-- the length stays
pub length-reset : {A : Type 0} (n : ℕ) (v : A) (old : List A) → n ≤ length old → length (replicate n v ++ drop n old) ≡ length old
length-reset n v old fits = omega (arith, length-append (replicate n v) (drop n old), length-replicate n v, length-drop n old)

module _ {S : Type 0} (lowest : S) (n m : ℕ) (rest : List (Listener S)) where
  -- the listeners of each server are silent
  pub silent_row : (b : ℕ) → b < n → listener_in lowest (part m (replicate (n * m) (silent lowest) ++ rest) b) ≡ (λ (c : ℕ). silent lowest)
  silent_row b inside = fun_ext (λ c. at c)
    where
      all : List (Listener S)
      all = replicate (n * m) (silent lowest) ++ rest

      at : (c : ℕ) → get_or (take m (drop (b * m) (replicate (n * m) (silent lowest) ++ rest))) c (silent lowest) ≡ silent lowest
      at c = elim (cases_lt c m) [
        | inl few ↦
            let ends = part_end b n m inside in
            get_or-take m (drop (b * m) (replicate (n * m) (silent lowest) ++ rest)) c (silent lowest) few
            ∙ get_or-drop (b * m) (replicate (n * m) (silent lowest) ++ rest) c (silent lowest)
            ∙ set_up (n * m) (b * m + c) (silent lowest) rest (omega arith)
        | inr many ↦
            let short = length-take m (drop (b * m) (replicate (n * m) (silent lowest) ++ rest)) in
            get_or_past (take m (drop (b * m) (replicate (n * m) (silent lowest) ++ rest))) c (silent lowest) (omega arith)
      ]

module _ {S V : Type 0} (above : S → S → Bool) (lowest : S) (initial : V) (n m : ℕ) where
  -- servers just set up
  pub servers_opened : (others : List (Server S V)) (rest : List (Listener S))
      → servers_of above lowest initial n m (replicate n (new_server lowest initial) ++ others) (replicate (n * m) (silent lowest) ++ rest)
      ≡ (λ (b : ℕ). record { timestamp = lowest; value = initial; listener = λ (c : ℕ). silent lowest })
  servers_opened others rest = fun_ext (λ b. at b)
    where
      first : Server S V
      first = new_server lowest initial

      at : (b : ℕ) → servers_of above lowest initial n m (replicate n (new_server lowest initial) ++ others) (replicate (n * m) (silent lowest) ++ rest) b
          ≡ record { timestamp = lowest; value = initial; listener = λ (c : ℕ). silent lowest }
      at b = elim (cases_lt b n) [
        | inl inside ↦
            cond-true (ltb b n) (state_of lowest (get_or (replicate n (new_server lowest initial) ++ others) b (new_server lowest initial)) (part m (replicate (n * m) (silent lowest) ++ rest) b)) (state_of lowest (new_server lowest initial) []) (lt-ltb b n inside)
            ∙ ap₂ (λ s (l : ℕ → Listener S). record { timestamp = s.timestamp; value = s.value; listener = l }) (set_up n b (new_server lowest initial) others inside) (silent_row lowest n m rest b inside)
        | inr outside ↦
            cond-false (ltb b n) (state_of lowest (get_or (replicate n (new_server lowest initial) ++ others) b (new_server lowest initial)) (part m (replicate (n * m) (silent lowest) ++ rest) b)) (state_of lowest (new_server lowest initial) []) (le-ltb b n outside)
      ]

  -- clients just set up
  pub clients_opened : (others : List (Client S V)) (reports : List (Report S V))
      → clients_of above lowest initial n m (replicate m (new_client lowest) ++ others) reports ≡ (λ (c : ℕ). record { number = 0; last = lowest; phase = protocol.idle })
  clients_opened others reports = fun_ext (λ c. at c)
    where
      at : (c : ℕ) → clients_of above lowest initial n m (replicate m (new_client lowest) ++ others) reports c ≡ record { number = 0; last = lowest; phase = protocol.idle }
      at c = elim (cases_lt c m) [
        | inl inside ↦
            cond-true (ltb c m) (client_of (get_or (replicate m (new_client lowest) ++ others) c (new_client lowest)) (view above (lowest, initial) n (part (n * (n + 1)) reports c)))
            (client_of (new_client lowest) (unread lowest initial)) (lt-ltb c m inside)
            ∙ ap (λ x. client_of x (view above (lowest, initial) n (part (n * (n + 1)) reports c))) (set_up m c (new_client lowest) others inside)
        | inr outside ↦
            cond-false (ltb c m) (client_of (get_or (replicate m (new_client lowest) ++ others) c (new_client lowest)) (view above (lowest, initial) n (part (n * (n + 1)) reports c)))
            (client_of (new_client lowest) (unread lowest initial)) (le-ltb c m outside)
      ]

-- memory that is not enough
pub not_opened : {Q S V : Type 0} (K : Setting S V) (system : Q) (x : Lent S V) (r : Result (Register Q) Refusal) (e : Refusal)
    → passed (first_failed ((not (enough K 0 x), Memory) ∷ [])) ≡ Err e → IsErrAnd r (λ d. d ≡ e) → Opened K system x r x
not_opened K system x r e was is =
    let w = one_refuses (enough K 0 x) Memory e was in
    subst (λ a. Opened K system x a x) (sym (err_as r e is)) (w.0, w.1, refl)

-- memory that is enough, with its servers, clients and listeners set up
module _ {Q S V : Type 0} (K : Setting S V) (system : Q) (x : Lent S V) (much : enough K 0 x ≡ true) where
  pub opened_with : (g : Register Q) (ss : List (Server S V)) (cs : List (Client S V)) (ls : List (Listener S))
      → g.system ≡ system → g.clients ≡ K.client_count → g.capacity ≡ K.capacity → g.len ≡ 0 → g.faulty.mask ≡ 0 → members g.faulty ≡ none
      → ss ≡ replicate K.rules.n (new_server K.lowest K.initial) ++ drop K.rules.n x.servers
      → cs ≡ replicate K.client_count (new_client K.lowest) ++ drop K.client_count x.clients
      → ls ≡ replicate (K.rules.n * K.client_count) (silent K.lowest) ++ drop (K.rules.n * K.client_count) x.listeners
      → OpenedWith K system x g (lent ss cs ls x.messages x.reports)
  opened_with g ss cs ls same-system same-clients same-capacity empty-queue empty-mask nobody servers clients listeners =
      let p = parts K 0 x much in
      record {
        enough_before = much;
        enough_after = still_enough K 0 x much 0 (lent ss cs ls x.messages x.reports) (omega arith) (λ i. record {
          servers = (ap length servers ∙ length-reset K.rules.n (new_server K.lowest K.initial) x.servers p.for_servers) i;
          clients = (ap length clients ∙ length-reset K.client_count (new_client K.lowest) x.clients p.for_clients) i;
          listeners = (ap length listeners ∙ length-reset (K.rules.n * K.client_count) (silent K.lowest) x.listeners p.for_listeners) i;
          messages = length x.messages;
          reports = length x.reports;
        });
        record_is = λ i. record { system = same-system i; clients = same-clients i; capacity = same-capacity i; len = empty-queue i; faulty = record { mask = empty-mask i } };
        servers_after = servers;
        clients_after = clients;
        listeners_after = listeners;
        messages_kept = refl;
        reports_kept = refl;
        state_after = λ i. record {
          faulty = nobody i;
          servers = (ap₂ (servers_of K.rules.above K.lowest K.initial K.rules.n K.client_count) servers listeners
              ∙ servers_opened K.rules.above K.lowest K.initial K.rules.n K.client_count (drop K.rules.n x.servers) (drop (K.rules.n * K.client_count) x.listeners)) i;
          clients = (ap (λ l. clients_of K.rules.above K.lowest K.initial K.rules.n K.client_count l x.reports) clients
              ∙ clients_opened K.rules.above K.lowest K.initial K.rules.n K.client_count (drop K.client_count x.clients) x.reports) i;
          queue = (ap (λ k. take k x.messages) empty-queue) i;
        };
      }
