-- A message at its server, over the memory of all servers. Assumes nothing.
use Rattle.std.proofs.Common.{◌≡◌, ℕ, ◌+◌, ◌*◌, ◌<◌, ◌≤◌, Bool, cond, eqb, ltb, List, [], length, get_or, set, Ok, Err, Result, sym, ap, ◌∙◌, subst, ap₂, inl, inr, arith}
use mathlib.Core.Path.{fun_ext}
use borrow.Rule.Slice.PartMut.{put_mid}
use Rattle.std.proofs.lemmas.List.{get_or-set_same, get_or-set_other, set-get_or, drop-set-lt, length-set}
use Rattle.std.proofs.lemmas.Slice.{drop-put_mid}
use Rattle.std.proofs.lemmas.Bool.{cases_eq, cond-true, cond-false, lt-ltb, eq-eqb, ne_eqb}
use Rattle.calls.specs.Refusals.{first_failed}
use Rattle.calls.specs.declared.Refusal.{Refusal}
use Rattle.network.specs.Queues.{Sent}
use Rattle.network.specs.declared.message.Message.{Message}
use Rattle.network.specs.declared.queue.Network.{Network}
use Rattle.reading.specs.Readings.{updated}
use Rattle.server.specs.Serving.{Reaction, reaction}
use Rattle.server.specs.Receiving.{state_of, receive_checks, reacts, Received}
use Rattle.server.specs.declared.state.Listener.{Listener}
use Rattle.server.specs.declared.state.Server.{Server}
use Rattle.delivery.specs.Memory.{part, new_server, servers_of}
use Rattle.delivery.specs.Parts.{server_reacts, server_refuses, ServersKept, Served}
use Rattle.delivery.proofs.Parts.{part_end, part_own, part_other, part_kept, length-put_mid}

module _ {S V : Type 0} (above : S → S → Bool) (lowest : S) (initial : V) (n m : ℕ) (ss : List (Server S V)) (ls : List (Listener S)) (b : ℕ) (within : b < n) (there : b < length ss) (inside : b * m + m ≤ length ls) where
  -- the server and its row, as the protocol sees them
  pub server_at : servers_of above lowest initial n m ss ls b ≡ state_of lowest (get_or ss b (new_server lowest initial)) (part m ls b)
  server_at = cond-true (ltb b n) (state_of lowest (get_or ss b (new_server lowest initial)) (part m ls b)) (state_of lowest (new_server lowest initial) []) (lt-ltb b n within)

  -- one server and its row become others
  pub servers_put : (server : Server S V) (row : List (Listener S)) → length row ≡ m
      → servers_of above lowest initial n m (set ss b server) (put_mid (b * m) m ls row) ≡ updated (servers_of above lowest initial n m ss ls) b (state_of lowest server row)
  servers_put server row long = fun_ext (λ u. at u)
    where
      first : Server S V
      first = new_server lowest initial

      at : (u : ℕ) → servers_of above lowest initial n m (set ss b server) (put_mid (b * m) m ls row) u ≡ updated (servers_of above lowest initial n m ss ls) b (state_of lowest server row) u
      at u = elim (cases_eq u b) [
        | inl same ↦
            ap (λ k. servers_of above lowest initial n m (set ss b server) (put_mid (b * m) m ls row) k) same
            ∙ cond-true (ltb b n) (state_of lowest (get_or (set ss b server) b first) (part m (put_mid (b * m) m ls row) b)) (state_of lowest first []) (lt-ltb b n within)
            ∙ ap₂ (λ s r. state_of lowest s r) (get_or-set_same ss b server first there) (part_own m ls row b inside long)
            ∙ sym (cond-true (eqb b u) (state_of lowest server row) (servers_of above lowest initial n m ss ls u) (eq-eqb b u (sym same)))
        | inr other ↦
            ap₂ (λ s r. cond (ltb u n) (state_of lowest s r) (state_of lowest first [])) (get_or-set_other ss b u server first other) (part_other m ls row b u inside long other)
            ∙ sym (cond-false (eqb b u) (state_of lowest server row) (servers_of above lowest initial n m ss ls u) (ne_eqb b u (λ e. other (sym e))))
      ]

module _ {S V : Type 0} (above : S → S → Bool) (lowest : S) (initial : V) (n m : ℕ) (faulty : Bool) (ss : List (Server S V)) (ls : List (Listener S)) (net : Network) (memory : List (Message S V)) (message : Message S V)
    (within : message.server < n) (there : message.server < length ss) (inside : message.server * m + m ≤ length ls) (long : length (part m ls message.server) ≡ m) where
  -- the server and its row
  abbrev own : Server S V
  own = get_or ss message.server (new_server lowest initial)

  abbrev row : List (Listener S)
  row = part m ls message.server

  -- how they react
  reacts_as : reacts above lowest initial faulty own row message ≡ server_reacts above lowest initial n m faulty ss ls message
  reacts_as = ap₂ (λ k x. reaction above lowest initial faulty k x message) long (sym (server_at above lowest initial n m ss ls message.server within there inside))

  -- and why the message is refused
  refuses_as : first_failed (receive_checks net (length memory) (length row) message.client (length (reacts above lowest initial faulty own row message).sent)) ≡ server_refuses above lowest initial n m faulty ss ls net memory message
  refuses_as = ap₂ (λ k r. first_failed (receive_checks net (length memory) k message.client (length r.sent))) long reacts_as

  -- a changed server and its changed part leave the rest of the memory as it was
  pub kept : (server' : Server S V) (row' : List (Listener S)) → length row' ≡ m
      → ServersKept above lowest initial n m ss ls (set ss message.server server') (put_mid (message.server * m) m ls row')
  kept server' row' same = record {
    servers_rest = drop-set-lt n ss message.server server' within;
    listeners_rest = drop-put_mid (message.server * m) m ls row' (n * m) (part_end message.server n m within) (omega arith) same;
    servers_length = length-set ss message.server server';
    listeners_length = length-put_mid (message.server * m) m ls row' inside same;
  }

  -- what a server's call promises of its part, it promises of the whole
  pub served : (r : Result Unit Refusal) (server' : Server S V) (row' : List (Listener S)) (net' : Network) (memory' : List (Message S V)) → length row' ≡ m
      → Received above lowest initial faulty own row net memory message r server' row' net' memory'
      → Served above lowest initial n m faulty ss ls net memory message r (set ss message.server server') (put_mid (message.server * m) m ls row') net' memory'
  served (Ok u) server' row' net' memory' same received = (
    sym refuses_as ∙ received.0,
    record {
      servers_after =
          servers_put above lowest initial n m ss ls message.server within there inside server' row' same
          ∙ ap (updated (servers_of above lowest initial n m ss ls) message.server) (received.1.state_after ∙ ap (λ r. r.after) reacts_as);
      sent_after =
          let P : Reaction S V → Type 0 = λ r. Sent net memory r.sent net' memory' in
          subst P reacts_as received.1.sent_after;
    },
  )
  served (Err e) server' row' net' memory' same received = (
    sym refuses_as ∙ received.0,
    ap (set ss message.server) received.1 ∙ set-get_or ss message.server (new_server lowest initial),
    ap (put_mid (message.server * m) m ls) received.2 ∙ part_kept (message.server * m) m ls,
    received.3,
    received.4,
  )
