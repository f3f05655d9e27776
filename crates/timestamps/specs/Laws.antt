-- What every kind of timestamp owes: a strict total order with a lowest timestamp, and for each client the lowest of its timestamps above two others.
use Rattle.std.specs.Prelude.{◌≡◌, ℕ, Bool, true, false, cond, Some, None, Option, nat_lt}

-- the higher of two timestamps; of equals, the first
abbrev pub higher : {S : Type 0} → (S → S → Bool) → S → S → S
higher above a b = cond (above b a) b a

-- a number, if it is below the limit
abbrev pub fitting : ℕ → ℕ → Option ℕ
fitting limit number = cond (nat_lt number limit) (Some number) None

-- t is owned by the client and above both a and b
pub record Candidate {S : Type 0} (above : S → S → Bool) (owner : S → ℕ) (client : ℕ) (a b t : S) : Type 0 where
  pub owned : owner t ≡ client
  pub above_first : above t a ≡ true
  pub above_second : above t b ≡ true

-- Some t: t is the lowest candidate; None: there is no candidate
abbrev pub Next : {S : Type 0} → (S → S → Bool) → (S → ℕ) → ℕ → S → S → Option S → Type 0
Next {S} above owner client a b (Some t) = Candidate above owner client a b t × ((u : S) → Candidate above owner client a b u → above t u ≡ false)
Next {S} above owner client a b None = (u : S) → Candidate above owner client a b u → ⊥

-- above is a strict total order, lowest is its least timestamp, and successor gives the lowest candidate
pub record TimestampLaws {S : Type 0} (above : S → S → Bool) (owner : S → ℕ) (lowest : S) (successor : ℕ → S → S → Option S) : Type 0 where
  pub irreflexive : (s : S) → above s s ≡ false
  pub transitive : (s t u : S) → above s t ≡ true → above t u ≡ true → above s u ≡ true
  pub total : (s t : S) → above s t ≡ false → above t s ≡ false → s ≡ t
  pub lowest_below : (s : S) → above lowest s ≡ false
  pub successor_lowest : (client : ℕ) (a b : S) → Next above owner client a b (successor client a b)
