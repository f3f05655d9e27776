-- A quorum system looks only at the servers below n, and the queue never outgrows its capacity.
use Rattle.std.proofs.Common.{◌≡◌, ℕ, ◌<◌, ◌≤◌, Bool, true, false, leb, List, [], ◌∷◌, length, sym, refl, ◌∙◌, arith}
use Rattle.protocol.specs.Settings.{Setting, Lawful}
use Rattle.machine.proofs.Machine.{State, Call, made, step, run}
use Rattle.machine.proofs.Base.{t≢f, by_cond, le_of}

bool_both : (a b : Bool) → (a ≡ true → b ≡ true) → (b ≡ true → a ≡ true) → a ≡ b
bool_both true b f g = sym (f refl)
bool_both false true f g = absurd (t≢f (g refl) refl)
bool_both false false f g = refl

module _ {S V : Type 0} (K : Setting S V) where
  module _ (L : Lawful K) where
    pub quorum_ext : (A B : ℕ → Bool) → ((b : ℕ) → b < K.rules.n → A b ≡ B b) → K.rules.quorum A ≡ K.rules.quorum B
    quorum_ext A B e = bool_both _ _ (L.quorums.larger_quorum A B (λ b h i. sym (e b h) ∙ i)) (L.quorums.larger_quorum B A (λ b h i. e b h ∙ i))

    pub fail_prone_ext : (A B : ℕ → Bool) → ((b : ℕ) → b < K.rules.n → A b ≡ B b) → K.rules.fail_prone A ≡ K.rules.fail_prone B
    fail_prone_ext A B e = bool_both _ _ (L.quorums.part_fail_prone B A (λ b h i. e b h ∙ i)) (L.quorums.part_fail_prone A B (λ b h i. sym (e b h) ∙ i))

  pub fits : (calls : List (Call S V)) → length (run K calls).queue ≤ K.capacity
  fits [] = omega arith
  fits (call ∷ calls) = go (fits calls)
    where
      go : length (run K calls).queue ≤ K.capacity → length (step K (run K calls) call).queue ≤ K.capacity
      go h = by_cond (λ (σ : State S V). length σ.queue ≤ K.capacity) (leb (length (made K (run K calls) call).queue) K.capacity) (made K (run K calls) call) (run K calls) (λ e. le_of _ _ e) (λ e. h)
