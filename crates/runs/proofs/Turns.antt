-- Calls played one after another. Assumes nothing.
use Rattle.std.proofs.Common.{◌≡◌, ℕ, ◌+◌, ◌<◌, ◌≤◌, true, List, [], ◌∷◌, ◌++◌, map, reverse, length, get_or, take, drop, set, sym, refl, ap, ◌∙◌, subst, append_assoc, arith}
use mathlib.Core.List.{reverse-cons}
use Rattle.std.proofs.lemmas.List.{reverse-append, length-reverse, length-map, length_push, length-take-le, take_more, drop_more, set_at}
use Rattle.calls.specs.declared.Answer.{Answer}
use Rattle.calls.specs.declared.Call.{Call}
use Rattle.network.proofs.Sending.{drop_later}
use Rattle.protocol.specs.Settings.{Setting}
use Rattle.protocol.specs.Protocol.{step, opened}
use Rattle.protocol.specs.Runs.{run, steps}
use Rattle.delivery.specs.Memory.{Lent, enough}
use Rattle.delivery.specs.Answering.{Rest}
use Rattle.register.specs.declared.record.Register.{Register}
use Rattle.register.specs.Calling.{with_queue, state_of, Answers}
use Rattle.register.proofs.Enough.{parts}
use Rattle.runs.specs.Playing.{state_after_calls, answers_to, Playing}

-- the newest call stands first in the reversed list
reverse_push : {A : Type 0} (xs : List A) (x : A) → reverse (xs ++ x ∷ []) ≡ x ∷ reverse xs
reverse_push xs x = reverse-append xs (x ∷ [])

module _ {S V : Type 0} (K : Setting S V) where
  -- there is a step for each call
  length-steps : (calls : List (Call S V)) → length (steps K calls) ≡ length calls
  length-steps [] = refl
  length-steps (call ∷ calls) = let h = length-steps calls in omega arith

  length-answers : (calls : List (Call S V)) → length (answers_to K calls) ≡ length calls
  length-answers calls =
      length-reverse (map (λ s. s.answer) (steps K (reverse calls))) ∙ length-map (steps K (reverse calls)) (λ s. s.answer) ∙ length-steps (reverse calls) ∙ length-reverse calls

  -- one call more
  answers_push : (calls : List (Call S V)) (call : Call S V) → answers_to K (calls ++ call ∷ []) ≡ answers_to K calls ++ ((step K (state_after_calls K calls) call).answer ∷ [])
  answers_push calls call =
      ap (λ l. reverse (map (λ s. s.answer) (steps K l))) (reverse_push calls call)
      ∙ reverse-cons (step K (run K (reverse calls)) call).answer (map (λ s. s.answer) (steps K (reverse calls)))

  state_push : (calls : List (Call S V)) (call : Call S V) → state_after_calls K (calls ++ call ∷ []) ≡ (step K (state_after_calls K calls) call).state
  state_push calls call = ap (run K) (reverse_push calls call)

  -- what stays over two calls stays over both
  pub rest_then : (len : ℕ) (x y z : Lent S V) → len ≤ K.capacity → Rest K K.capacity x y → Rest K len y z → Rest K K.capacity x z
  rest_then len x y z fits a b = record {
    servers_rest = b.servers_rest ∙ a.servers_rest;
    clients_rest = b.clients_rest ∙ a.clients_rest;
    listeners_rest = b.listeners_rest ∙ a.listeners_rest;
    messages_rest = drop_later z.messages y.messages len K.capacity fits b.messages_rest ∙ a.messages_rest;
    reports_rest = b.reports_rest ∙ a.reports_rest;
  }

module _ {Q S V : Type 0} (K : Setting S V) (g : Register Q) (x : Lent S V) (answers : List (Answer S V)) where
  -- one call more is played
  pub play_more : (calls : List (Call S V)) (call : Call S V) (g' g'' : Register Q) (x' x'' : Lent S V) (answers' : List (Answer S V)) (r : Answer S V)
      → length calls < length answers → Playing K calls g x answers g' x' answers' → Answers K g' x' call r g'' x''
      → Playing K (calls ++ call ∷ []) g x answers g'' x'' (set answers' (length calls) r)
  play_more calls call g' g'' x' x'' answers' r room played answered =
      let done = answered.called.answered played.enough_after in
      let p = parts K g''.len x'' done.enough_after in
      let k = length calls in
      let said = answers_to K calls in
      let next = length_push calls call in
      record {
        answers_are =
            ap (λ l. set l k r) (played.answers_are ∙ ap (λ l. said ++ l) (drop_more answers k r room))
            ∙ set_at said (get_or answers k r) (drop (k + 1) answers) r k (length-answers K calls)
            ∙ ap (λ a. said ++ a ∷ drop (k + 1) answers) (done.answer_is ∙ ap (λ σ. (step K σ call).answer) played.state_is)
            ∙ sym (append_assoc said ((step K (state_after_calls K calls) call).answer ∷ []) (drop (k + 1) answers))
            ∙ ap (λ l. l ++ drop (k + 1) answers) (sym (answers_push K calls call))
            ∙ ap (λ j. answers_to K (calls ++ call ∷ []) ++ drop j answers) (sym next);
        state_is = done.state_after ∙ ap (λ σ. (step K σ call).state) played.state_is ∙ sym (state_push K calls call);
        setting_kept = answered.setting_kept ∙ ap (λ h. with_queue h g''.len g''.faulty) played.setting_kept;
        enough_after = done.enough_after;
        rest_after = rest_then K g''.len x x' x'' p.standing played.rest_after done.rest_after;
      }

  -- no call is played yet
  pub play_none : enough K g.len x ≡ true → state_of K g x ≡ opened K → Playing K [] g x answers g x answers
  play_none much fresh = record {
    answers_are = refl;
    state_is = fresh;
    setting_kept = refl;
    enough_after = much;
    rest_after = record { servers_rest = refl; clients_rest = refl; listeners_rest = refl; messages_rest = refl; reports_rest = refl };
  }

  -- the call at a place is played
  pub play_next : (calls : List (Call S V)) (i : ℕ) (call : Call S V) (g' g'' : Register Q) (x' x'' : Lent S V) (answers' : List (Answer S V)) (r : Answer S V)
      → i < length calls → length calls ≤ length answers → call ≡ get_or calls i call
      → Playing K (take i calls) g x answers g' x' answers' → Answers K g' x' call r g'' x'' → Playing K (take (i + 1) calls) g x answers g'' x'' (set answers' i r)
  play_next calls i call g' g'' x' x'' answers' r inside room read played answered =
      let far : length (take i calls) ≡ i = length-take-le i calls (omega arith) in
      let grown : take (i + 1) calls ≡ take i calls ++ call ∷ [] = take_more calls i call inside ∙ ap (λ y. take i calls ++ y ∷ []) (sym read) in
      let P : List (Call S V) → ℕ → Type 0 = λ l k. Playing K l g x answers g'' x'' (set answers' k r) in
      subst (λ l. P l i) (sym grown)
      (subst (λ k. P (take i calls ++ call ∷ []) k) far (play_more (take i calls) call g' g'' x' x'' answers' r (omega (arith, far)) played answered))
