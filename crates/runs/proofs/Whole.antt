-- A whole run, from the opening on. Assumes nothing.
use Rattle.std.proofs.Common.{◌≡◌, ℕ, ◌+◌, ◌*◌, ◌<◌, ◌≤◌, false, cond, not, List, ◌++◌, reverse, length, take, drop, replicate, Some, None, sym, refl, ap, ◌∙◌, arith}
use Rattle.std.proofs.lemmas.List.{drop_at, length-replicate}
use Rattle.std.proofs.lemmas.Bool.{lt-ltb, le-ltb}
use Rattle.calls.specs.declared.Answer.{Answer}
use Rattle.calls.specs.declared.Call.{Call}
use Rattle.calls.specs.declared.Refusal.{Refusal}
use Rattle.calls.specs.declared.Refusal.TheVariants.{Memory}
use Rattle.protocol.specs.Settings.{Setting, Lawful}
use Rattle.machine.proofs.ProtocolLaw.{run_law}
use Rattle.delivery.specs.Memory.{Lent, new_server, new_client, enough}
use Rattle.server.specs.Serving.{silent}
use Rattle.register.specs.declared.record.Register.{Register}
use Rattle.register.specs.Calling.{OpenedWith}
use Rattle.runs.specs.Playing.{Playing, RunPlayed, RunRefused}
use Rattle.runs.proofs.Turns.{rest_then}

-- what lies past entries that are set up is as it was
past_reset : {A : Type 0} (n : ℕ) (v : A) (old new : List A) → new ≡ replicate n v ++ drop n old → drop n new ≡ drop n old
past_reset n v old new is = ap (drop n) is ∙ drop_at (replicate n v) (drop n old) n (length-replicate n v)

module _ {S V : Type 0} (K : Setting S V) (calls : List (Call S V)) (x : Lent S V) (answers : List (Answer S V)) where
  -- the answers are too few
  pub few_answers : length answers < length calls → RunRefused K calls x answers Memory x answers
  few_answers few = record {
    refused_with = ap (λ t. cond t (Some Memory) (cond (not (enough K 0 x)) (Some Memory) None)) (lt-ltb (length answers) (length calls) few);
    memory_kept = refl;
    answers_kept = refl;
  }

  -- the register is not opened
  pub not_opened : length calls ≤ length answers → (e : Refusal) (x' : Lent S V) → enough K 0 x ≡ false → e ≡ Memory → x' ≡ x → RunRefused K calls x answers e x' answers
  not_opened room e x' little is same = record {
    refused_with =
        ap (λ t. cond t (Some Memory) (cond (not (enough K 0 x)) (Some Memory) None)) (le-ltb (length answers) (length calls) room)
        ∙ ap (λ t. cond (not t) (Some Memory) None) little ∙ ap (λ y. Some y) (sym is);
    memory_kept = same;
    answers_kept = refl;
  }

  -- the run is played
  pub run_played : {Q : Type 0} → Lawful K → length calls ≤ length answers → (system : Q) (g g' : Register Q) (x' x'' : Lent S V) (answers' : List (Answer S V)) → OpenedWith K system x g x'
      → Playing K calls g x' answers g' x'' answers' → RunPlayed K system calls x answers g' x'' answers'
  run_played L room system g g' x' x'' answers' start played = record {
    not_refused =
        ap (λ t. cond t (Some Memory) (cond (not (enough K 0 x)) (Some Memory) None)) (le-ltb (length answers) (length calls) room)
        ∙ ap (λ t. cond (not t) (Some Memory) None) start.enough_before;
    answers_are = played.answers_are;
    state_is = played.state_is;
    system_is = ap (λ h. h.system) played.setting_kept ∙ ap (λ h. h.system) start.record_is;
    clients_are = ap (λ h. h.clients) played.setting_kept ∙ ap (λ h. h.clients) start.record_is;
    capacity_is = ap (λ h. h.capacity) played.setting_kept ∙ ap (λ h. h.capacity) start.record_is;
    enough_after = played.enough_after;
    rest_after = rest_then K K.capacity x x' x'' (omega arith)
        (record {
          servers_rest = past_reset K.rules.n (new_server K.lowest K.initial) x.servers x'.servers start.servers_after;
          clients_rest = past_reset K.client_count (new_client K.lowest) x.clients x'.clients start.clients_after;
          listeners_rest = past_reset (K.rules.n * K.client_count) (silent K.lowest) x.listeners x'.listeners start.listeners_after;
          messages_rest = ap (drop K.capacity) start.messages_kept;
          reports_rest = ap (drop (K.client_count * (K.rules.n * (K.rules.n + 1)))) start.reports_kept;
        })
        played.rest_after;
    law_of_every_prefix = λ i. run_law K L (reverse (take i calls));
  }
