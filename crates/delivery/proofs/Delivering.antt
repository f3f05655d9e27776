-- The message at a place of the queue, delivered. Assumes nothing.
use Rattle.std.proofs.Common.{◌≡◌, ℕ, ◌<◌, ◌≤◌, Bool, true, false, cond, not, ◌&&◌, ltb, leb, List, [], ◌∷◌, get_or, take, Some, None, Option, sym, refl, ap, ◌∙◌, subst, inl, inr, arith}
use Rattle.std.proofs.lemmas.List.{length-take-le}
use Rattle.std.proofs.lemmas.Bool.{and_parts, and_from, both_ways, cases_Bool, cond-true, cond-false, le-leb, leb-true, leb-false, lt-ltb, ltb-true}
use Rattle.calls.specs.Refusals.{first_failed}
use Rattle.calls.specs.declared.Answer.{Answer}
use Rattle.calls.specs.declared.Answer.TheVariants.{Refused}
use Rattle.calls.specs.declared.Refusal.{Refusal}
use Rattle.calls.specs.declared.Refusal.TheVariants.{Memory, NoMessage, TokenOut}
use Rattle.calls.proofs.Checks.{passes_first}
use Rattle.network.specs.Kinds.{kind_of}
use Rattle.network.specs.Queues.{sized, fits, take_checks, lifted_at}
use Rattle.network.specs.declared.message.Kind.{Kind}
use Rattle.network.specs.declared.message.Message.{Message}
use Rattle.network.specs.declared.queue.Network.{Network}
use Rattle.quorums.specs.declared.sets.ServerSet.{ServerSet}
use Rattle.protocol.specs.Settings.{Setting}
use Rattle.protocol.specs.Protocol.{State, refused, handed, named, taken, delivered, lift}
use Rattle.delivery.specs.Memory.{Lent, sizes_of, state_in, enough}
use Rattle.delivery.specs.Answering.{Answered, ReportsAfter, Delivery}
use Rattle.delivery.specs.Handing.{kind_named, HandedOver}
use Rattle.delivery.proofs.Limits.{limits}
use Rattle.delivery.proofs.Queues.{lift_past, lift_queue}
use Rattle.delivery.proofs.Handing.{kept_answered}

-- something under a test that may fail: the test holds
test_holds : {A : Type 0} (t : Bool) (o : Option A) (a : A) → cond t o None ≡ Some a → (t ≡ true) × (o ≡ Some a)
test_holds true o a is = (refl, is)
test_holds false o a is = let z : ◌≡◌ {A = ℕ} 0 1 = cc in absurd (omega arith)

-- a message that names what is there
pub record Named {S V : Type 0} (n m : ℕ) (message : Message S V) (kind : Kind) : Type 0 where
  pub client : message.client < m
  pub server : message.server < n
  pub kind_is : kind_of message.kind ≡ Some kind

pub named_parts : {S V : Type 0} (n m : ℕ) (message : Message S V) (kind : Kind) → kind_named n m message ≡ Some kind → Named n m message kind
named_parts n m message kind is =
    let both = test_holds (ltb message.client m && ltb message.server n) (kind_of message.kind) kind is in
    let parts = and_parts (ltb message.client m) (ltb message.server n) both.0 in
    record { client = ltb-true message.client m parts.0; server = ltb-true message.server n parts.1; kind_is = both.1 }

module _ {S V : Type 0} (K : Setting S V) (σ : State S V) (rest : List (Message S V)) (message : Message S V) where
  -- it is handed over by its kind
  pub taken_named : (kind : Kind) → kind_named K.rules.n K.client_count message ≡ Some kind → taken K σ rest message (kind_of message.kind) ≡ handed K σ rest message kind
  taken_named kind is =
      let both = test_holds (named K message) (kind_of message.kind) kind is in
      ap (taken K σ rest message) both.1 ∙ cond-true (named K message) (handed K σ rest message kind) (refused σ Memory) both.0

  unnamed : (o : Option Kind) → cond (named K message) o None ≡ None → taken K σ rest message o ≡ refused σ Memory
  unnamed None is = refl
  unnamed (Some kind) is = elim (cases_Bool (named K message)) [
    | inl t ↦
        let clash : ◌≡◌ {A = Option Kind} (Some kind) None = sym (cond-true (named K message) (Some kind) None t) ∙ is in
        let z : ◌≡◌ {A = ℕ} 0 1 = cc in
        absurd (omega arith)
    | inr f ↦ cond-false (named K message) (handed K σ rest message kind) (refused σ Memory) f
  ]

  -- any other is refused
  pub taken_unnamed : kind_named K.rules.n K.client_count message ≡ None → taken K σ rest message (kind_of message.kind) ≡ refused σ Memory
  taken_unnamed is = unnamed (kind_of message.kind) is

-- a network with nothing lifted
abbrev idle : ℕ → ℕ → Network
idle capacity len = record { capacity = capacity; len = len; lifted = None }

idle_fits : (capacity len room : ℕ) → sized capacity room ≡ true → len ≤ capacity → fits (idle capacity len) room ≡ true
idle_fits capacity len room size few = and_from (sized capacity room) (leb len capacity && true) size (and_from (leb len capacity) true (le-leb len capacity few) refl)

pub lifted_fits : (capacity len room place : ℕ) → sized capacity room ≡ true → len ≤ capacity → place < len → fits (lifted_at (idle capacity len) place) room ≡ true
lifted_fits capacity len room place size few low =
    and_from (sized capacity room) (leb len capacity && ltb place len) size (and_from (leb len capacity) (ltb place len) (le-leb len capacity few) (lt-ltb place len low))

-- a message is taken: it stands in the queue
pub taken_inside : (capacity len room place : ℕ) → first_failed (take_checks (idle capacity len) room place) ≡ None → place < len
taken_inside capacity len room place ok =
    let rest = (leb len place, NoMessage) ∷ [] in
    let first = passes_first (not (fits (idle capacity len) room)) Memory ((false, TokenOut) ∷ rest) ok in
    leb-false len place (passes_first (leb len place) NoMessage [] first.1).0

last_decides : (t : Bool) (e : Refusal) → first_failed ((t, NoMessage) ∷ []) ≡ Some e → (e ≡ NoMessage) × (t ≡ true)
last_decides true e is = (cc, refl)
last_decides false e is = let z : ◌≡◌ {A = ℕ} 0 1 = cc in absurd (omega arith)

-- a message is not taken: there is none at the place
pub taken_past : (capacity len room place : ℕ) (e : Refusal) → sized capacity room ≡ true → len ≤ capacity → first_failed (take_checks (idle capacity len) room place) ≡ Some e
    → (e ≡ NoMessage) × (len ≤ place)
taken_past capacity len room place e size few is =
    let only : first_failed ((leb len place, NoMessage) ∷ []) ≡ Some e =
    ap (λ t. cond t (Some NoMessage) None) refl
    ∙ sym (ap (λ t. first_failed ((not t, Memory) ∷ (false, TokenOut) ∷ (leb len place, NoMessage) ∷ [])) (idle_fits capacity len room size few)) ∙ is in
    let why = last_decides (leb len place) e only in
    (why.0, leb-true len place why.1)

module _ {S V : Type 0} (K : Setting S V) (len : ℕ) (faulty : ServerSet) (x : Lent S V) (place : ℕ) where
  -- not enough memory
  pub delivery_short : enough K len x ≡ false → Delivery K len faulty x place (Refused Memory) len x
  delivery_short short = record {
    called = record {
      short = λ _. record { answer_is = refl; length_kept = refl; faulty_kept = refl; memory_kept = refl };
      answered = λ t. absurd (both_ways (enough K len x) short t);
    };
    reports_after = λ t. absurd (both_ways (enough K len x) short t);
  }

  -- what is handed over is delivered
  pub delivery_handed : (message : Message S V) (r : Answer S V) (net' : Network) (x' : Lent S V) → enough K len x ≡ true → place < len → message ≡ get_or x.messages place message
      → HandedOver K (lifted_at (idle K.capacity len) place) faulty x message r net' x' → Delivery K len faulty x place r net'.len x'
  delivery_handed message r net' x' was low read over =
      let within = limits K.rules.n K.client_count K.capacity len (sizes_of x) was in
      let lift_is = lift_queue place len x.messages message low (omega (arith, within.standing, within.memory)) read in
      let σ = state_in K len faulty x in
      let h = over place refl in
      let P : Option (Message S V × List (Message S V)) → Type 0 = λ o. Answered K len faulty x (delivered K σ o) r net'.len faulty x' in
      let R : Option (Message S V × List (Message S V)) → Type 0 = λ o. ReportsAfter K σ o x.reports x'.reports in
      record {
        called = record {
          short = λ f. absurd (both_ways (enough K len x) f was);
          answered = λ _. subst P (sym lift_is) h.answered;
        };
        reports_after = λ _. subst R (sym lift_is) h.reports_after;
      }

  -- no message at the place
  pub delivery_past : (e : Refusal) → enough K len x ≡ true → e ≡ NoMessage → len ≤ place → Delivery K len faulty x place (Refused e) len x
  delivery_past e was e_is past =
      let within = limits K.rules.n K.client_count K.capacity len (sizes_of x) was in
      let long = length-take-le len x.messages (omega (arith, within.standing, within.memory)) in
      let lift_is : lift place (take len x.messages) ≡ None = lift_past place (take len x.messages) (omega (arith, long, past)) in
      let σ = state_in K len faulty x in
      let reply_is : delivered K σ (lift place (take len x.messages)) ≡ refused σ e = ap (delivered K σ) lift_is ∙ ap (refused σ) (sym e_is) in
      let R : Option (Message S V × List (Message S V)) → Type 0 = λ o. ReportsAfter K σ o x.reports x.reports in
      record {
        called = record {
          short = λ f. absurd (both_ways (enough K len x) f was);
          answered = λ _. kept_answered K len len faulty x x (delivered K σ (lift place (take len x.messages))) (Refused e) e reply_is refl refl refl was;
        };
        reports_after = λ _. subst R (sym lift_is) refl;
      }
