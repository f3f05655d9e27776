-- Runs of a register, and the law that every run keeps.
use Rattle.std.specs.Prelude.{◌≡◌, ℕ, ◌<◌, Bool, true, false, ◌⊎◌, List, [], ◌∷◌}
use Rattle.calls.specs.declared.Call.{Call}
use Rattle.calls.specs.declared.Call.TheVariants.{Write, Deliver}
use Rattle.calls.specs.declared.Answer.{Answer}
use Rattle.calls.specs.declared.Answer.TheVariants.{Begun, FinishedWrite, FinishedRead}
use Rattle.network.specs.declared.message.Message.{Message}
use Rattle.protocol.specs.Settings.{Setting, Lawful}
use Rattle.protocol.specs.Clients.{Phase, idle, asking, storing, reading}
use Rattle.protocol.specs.Protocol.{State, step, opened}

-- an element is in a list
pub data In {A : Type 0} (a : A) : List A → Type 0 where
  here : {xs : List A} → In a (a ∷ xs)
  there : {x : A} {xs : List A} → In a xs → In a (x ∷ xs)

-- of a list with the newest first: a is there, and b after it
pub data Before {A : Type 0} (a b : A) : List A → Type 0 where
  then : {xs : List A} → In a xs → Before a b (b ∷ xs)
  since : {x : A} {xs : List A} → Before a b xs → Before a b (x ∷ xs)

-- one call of a run: the state before it, the call, its answer, and the state after it
pub record Step (S V : Type 0) : Type 0 where
  pub before : State S V
  pub call : Call S V
  pub answer : Answer S V
  pub after : State S V

module _ {S V : Type 0} (K : Setting S V) where
  -- the state after calls, the newest call first
  abbrev pub run : List (Call S V) → State S V
  run [] = opened K
  run (call ∷ calls) = (step K (run calls) call).state

  -- the steps of a run, the newest first
  abbrev pub steps : List (Call S V) → List (Step S V)
  steps [] = []
  steps (call ∷ calls) =
      record { before = run calls; call = call; answer = (step K (run calls) call).answer; after = (step K (run calls) call).state } ∷ steps calls

module _ {S V : Type 0} where
  -- the client writes, and has no timestamp yet
  abbrev pub is_asking : Phase S V → Bool
  is_asking idle = false
  is_asking (asking v told t) = true
  is_asking (storing t v acks) = false
  is_asking (reading r) = false

  -- write k of client c began, with its value
  abbrev pub BeganWrite : (c k : ℕ) → V → Step S V → Type 0
  BeganWrite c k v s = (s.call ≡ Write c v) × (s.answer ≡ Begun c k)

  -- read k of client c began
  abbrev pub BeganRead : (c k : ℕ) → Step S V → Type 0
  BeganRead c k s = (s.call ≡ Call.Read c) × (s.answer ≡ Begun c k)

  -- write k of client c chose its timestamp: a delivery after which the client, which was asking, is storing that pair
  pub record Chose (c k : ℕ) (t : S) (v : V) (s : Step S V) : Type 0 where
    pub place : ℕ
    pub by_delivery : s.call ≡ Deliver place
    pub was_asking : is_asking (s.before.clients c).phase ≡ true
    pub number_is : (s.after.clients c).number ≡ k
    pub acks : ℕ → Bool
    pub is_storing : (s.after.clients c).phase ≡ storing t v acks

  -- write k of client c finished with this timestamp
  abbrev pub EndedWrite : (c k : ℕ) → S → Step S V → Type 0
  EndedWrite c k t s = s.answer ≡ FinishedWrite c k t

  -- read k of client c finished with this pair
  abbrev pub EndedRead : (c k : ℕ) → S → V → Step S V → Type 0
  EndedRead c k t v s = s.answer ≡ FinishedRead c k t v

  -- an operation finished with this timestamp
  abbrev pub Ended : S → Step S V → Type 0
  Ended t s = ((c : ℕ) × (k : ℕ) × EndedWrite c k t s) ⊎ ((c : ℕ) × (k : ℕ) × (v : V) × EndedRead c k t v s)

-- the law of a run
pub record RunLaw {S V : Type 0} (K : Setting S V) (calls : List (Call S V)) : Type 0 where
  -- a write that began after an operation finished has the higher timestamp
  pub later_write_above : (c k : ℕ) (t₁ t : S) (v v' : V) (s₁ s₂ s₃ : Step S V) → Before s₁ s₂ (steps K calls) → In s₃ (steps K calls)
      → Ended t₁ s₁ → BeganWrite c k v s₂ → Chose c k t v' s₃ → K.rules.above t t₁ ≡ true
  -- a read that began after an operation finished has no lower timestamp
  pub later_read_not_below : (c k : ℕ) (t₁ t : S) (v : V) (s₁ s₂ s₃ : Step S V) → Before s₁ s₂ (steps K calls) → In s₃ (steps K calls)
      → Ended t₁ s₁ → BeganRead c k s₂ → EndedRead c k t v s₃ → K.rules.above t₁ t ≡ false
  -- no two writes have one timestamp
  pub writes_told_apart : (c k c' k' : ℕ) (t : S) (v v' : V) (s s' : Step S V) → In s (steps K calls) → In s' (steps K calls)
      → Chose c k t v s → Chose c' k' t v' s' → (c ≡ c') × (k ≡ k') × (v ≡ v')
  -- a write has one timestamp
  pub chosen_once : (c k : ℕ) (t t' : S) (v v' : V) (s s' : Step S V) → In s (steps K calls) → In s' (steps K calls)
      → Chose c k t v s → Chose c k t' v' s' → t ≡ t'
  -- a write that chose its timestamp began before, with that value
  pub chosen_began : (c k : ℕ) (t : S) (v : V) (s : Step S V) → In s (steps K calls) → Chose c k t v s
      → (s' : Step S V) × Before s' s (steps K calls) × BeganWrite c k v s'
  -- a write that finished has the timestamp that it chose before
  pub finished_write_chose : (c k : ℕ) (t : S) (s : Step S V) → In s (steps K calls) → EndedWrite c k t s
      → (v : V) × (s' : Step S V) × Before s' s (steps K calls) × Chose c k t v s'
  -- a read that finished began before
  pub finished_read_began : (c k : ℕ) (t : S) (v : V) (s : Step S V) → In s (steps K calls) → EndedRead c k t v s
      → (s' : Step S V) × Before s' s (steps K calls) × BeganRead c k s'
  -- a read that finished gives the initial pair, or the pair of one write that began and chose before
  pub read_genuine : (c k : ℕ) (t : S) (v : V) (s : Step S V) → In s (steps K calls) → EndedRead c k t v s
      → ((t ≡ K.lowest) × (v ≡ K.initial))
      ⊎ ((c' : ℕ) × (k' : ℕ) × (s' : Step S V) × (s'' : Step S V) × Before s' s (steps K calls) × Chose c' k' t v s' × Before s'' s (steps K calls) × BeganWrite c' k' v s'')
  -- if no message is under way to or from a correct server, no client has an operation open
  pub quiet_is_done : ((m : Message S V) → In m (run K calls).queue → (run K calls).faulty m.server ≡ true) → (c : ℕ) → c < K.client_count → ((run K calls).clients c).phase ≡ idle

-- every run keeps the law, over every setting whose kinds have their laws
abbrev pub Law : Type 0 → Type 0 → Type 0
Law S V = (K : Setting S V) → Lawful K → (calls : List (Call S V)) → RunLaw K calls
