-- Every run of the protocol keeps its law: the machine's run beside it has the history of its steps.
use Rattle.std.proofs.Common.{◌≡◌, ℕ, ◌≤◌, Bool, ◌⊎◌, List, [], ◌∷◌, ◌++◌, map, length, Some, None, Option, sym, refl, ap, ◌∙◌, subst, inl, inr, arith}
use lib.ListN.{length-map}
use Rattle.calls.specs.declared.Call.{Call}
use Rattle.protocol.specs.Settings.{Setting, Lawful}
use Rattle.protocol.specs.Protocol.{step}
use Rattle.protocol.specs.Runs.{In, here, there, Before, then, since, Step, run, steps, BeganWrite, BeganRead, Chose, EndedWrite, EndedRead, Ended, RunLaw}
use Rattle.machine.proofs.Machine as M
use Rattle.machine.proofs.Laws.{Laws}
use Rattle.machine.proofs.Base.{in_cons, in_left, in_right}
use Rattle.machine.proofs.Extra.{fits}
use Rattle.machine.proofs.LiveRun.{all_laws}
use Rattle.machine.proofs.Meaning.{in_map, meaning, meaning_server, shown}
use Rattle.machine.proofs.Follows.{Records, Followed, follows}

-- an element of two parts is in one
pub in-++ : {A : Type 0} {a : A} (xs ys : List A) → In a (xs ++ ys) → In a xs ⊎ In a ys
in-++ [] ys i = inr i
in-++ (x ∷ xs) ys i = elim (in_cons i) [ inl e ↦ inl (subst (λ y. In y (x ∷ xs)) (sym e) here) | inr j ↦ elim (in-++ xs ys j) [ inl k ↦ inl (there k) | inr k ↦ inr k ] ]

-- what is before something, by whether that is the newest
pub before_cons : {A : Type 0} {a b x : A} {xs : List A} → Before a b (x ∷ xs) → ((b ≡ x) × In a xs) ⊎ Before a b xs
before_cons (then i) = inl (refl, i)
before_cons (since j) = inr j

-- what is before something is in the list
pub before_in : {A : Type 0} {a b : A} {xs : List A} → Before a b xs → In a xs
before_in (then i) = there i
before_in (since j) = there (before_in j)

-- what is before something is not only the newest
pub before_older : {A : Type 0} {a b x : A} {xs : List A} → Before a b (x ∷ xs) → In a xs
before_older (then i) = i
before_older (since j) = before_in j

-- of two parts, what is in the older is before what is in the newer
pub before-++ : {A : Type 0} {a b : A} (xs ys : List A) → In b xs → In a ys → Before a b (xs ++ ys)
before-++ [] ys i j = elim i [ ]
before-++ (x ∷ xs) ys here j = then (in_right xs ys j)
before-++ (x ∷ xs) ys (there i) j = since (before-++ xs ys i j)

-- what is before something in the older part
pub before_right : {A : Type 0} {a b : A} (xs ys : List A) → Before a b ys → Before a b (xs ++ ys)
before_right [] ys i = i
before_right (x ∷ xs) ys i = since (before_right xs ys i)

-- the only element is in the list
pub in_only : {A : Type 0} {a : A} {xs : List A} → xs ≡ (a ∷ []) → In a xs
in_only {a = a} e = subst (In a) (sym e) here

module _ {S V : Type 0} where
  -- a history is that of these steps
  abbrev pub Told : List (Step S V) → List (M.Event S V) → Type 0
  Told [] h = h ≡ []
  Told (s ∷ ss) h = (es : List (M.Event S V)) × (h' : List (M.Event S V)) × (h ≡ es ++ h') × Records s es × Told ss h'

  -- the events of a step of the run are in the history
  told_in : (ss : List (Step S V)) (h : List (M.Event S V)) → Told ss h → (s : Step S V) → In s ss →
      (es : List (M.Event S V)) × Records s es × ((e : M.Event S V) → In e es → In e h)
  told_in [] h t s i = elim i [ ]
  told_in (x ∷ ss) h (es, h', e, r, t) s i = elim (in_cons i) [
    | inl q ↦ (es, subst (λ y. Records y es) (sym q) r, λ a j. subst (In a) (sym e) (in_left es h' j))
    | inr j ↦ (let u = told_in ss h' t s j in (u.0, u.1, λ a k. subst (In a) (sym e) (in_right es h' (u.2 a k))))
  ]

  -- the events of steps of the run come in the order of the steps
  told_before : (ss : List (Step S V)) (h : List (M.Event S V)) → Told ss h → (s₁ s₂ : Step S V) → Before s₁ s₂ ss →
      (es₁ : List (M.Event S V)) × (es₂ : List (M.Event S V)) × Records s₁ es₁ × Records s₂ es₂ × ((e₁ e₂ : M.Event S V) → In e₁ es₁ → In e₂ es₂ → Before e₁ e₂ h)
  told_before [] h t s₁ s₂ i = elim i [ ]
  told_before (x ∷ ss) h (es, h', e, r, t) s₁ s₂ i = elim (before_cons i) [
    | inl (q, j) ↦ (let u = told_in ss h' t s₁ j in
        (u.0, es, u.1, subst (λ y. Records y es) (sym q) r, λ a b k l. subst (Before a b) (sym e) (before-++ es h' l (u.2 a k))))
    | inr j ↦ (let u = told_before ss h' t s₁ s₂ j in (u.0, u.1, u.2, u.3, λ a b k l. subst (Before a b) (sym e) (before_right es h' (u.4 a b k l))))
  ]

  -- an event of the history is one of a step
  told_from : (ss : List (Step S V)) (h : List (M.Event S V)) → Told ss h → (P : Step S V → Type 0) (e : M.Event S V) →
      ((s : Step S V) (es : List (M.Event S V)) → Records s es → In e es → P s) → In e h → (s : Step S V) × In s ss × P s
  told_from [] h t P e f i = elim (subst (In e) t i) [ ]
  told_from (x ∷ ss) h (es, h', q, r, t) P e f i = elim (in-++ es h' (subst (In e) q i)) [
    | inl j ↦ (x, here, f x es r j)
    | inr j ↦ (let u = told_from ss h' t P e f j in (u.0, there u.1, u.2))
  ]

  -- the events of an end
  ended_in : (t : S) (s : Step S V) (es : List (M.Event S V)) → Records s es → Ended t s → (c : ℕ) × (k : ℕ) × (o : Option V) × (q : ℕ → Bool) × In (M.finished c k t o q) es
  ended_in t s es r (inl (c, k, w)) = let u = r.ended_write c k t w in (c, k, None, u.0, in_only u.1)
  ended_in t s es r (inr (c, k, v, w)) = let u = r.ended_read c k t v w in (c, k, Some v, u.0, in_only u.1)

module _ {S V : Type 0} (K : Setting S V) where
  -- a run of the machine beside one of the protocol
  pub record Beside (calls : List (Call S V)) : Type 0 where
    pub own : List (M.Call S V)
    pub history : List (M.Event S V)
    pub same : M.run K own ≡ shown (run K calls) history
    pub told : Told (steps K calls) history

  -- there is one beside every run
  pub beside : (calls : List (Call S V)) → Beside calls
  beside [] = record { own = []; history = []; same = refl; told = refl }
  beside (call ∷ calls) = go (beside calls)
    where
      go : Beside calls → Beside (call ∷ calls)
      go b = elim f.reaches [
        | inl e ↦ record { own = b.own; history = f.events ++ b.history; same = b.same ∙ sym e; told = (f.events, b.history, refl, f.records, b.told) }
        | inr (o, e) ↦ record { own = o ∷ b.own; history = f.events ++ b.history; same = ap (λ τ. M.step K τ o) b.same ∙ e; told = (f.events, b.history, refl, f.records, b.told) }
      ]
        where
          room : length (run K calls).queue ≤ K.capacity
          room = let a : length (map meaning (run K calls).queue) ≤ K.capacity = subst (λ (τ : M.State S V). length τ.queue ≤ K.capacity) b.same (fits K b.own) in
              let l = length-map (run K calls).queue (meaning {S = S} {V = V}) in
              omega arith

          f : Followed K (run K calls) b.history call (step K (run K calls) call)
          f = follows K (run K calls) b.history room call

  -- the newest step
  abbrev newest : Call S V → List (Call S V) → Step S V
  newest call calls = record { before = run K calls; call = call; answer = (step K (run K calls) call).answer; after = (step K (run K calls) call).state }

  -- what holds of the newest step and an older one holds of every step and one before it
  before_each : (P R : Step S V → Type 0) → ((call : Call S V) (calls : List (Call S V)) → P (newest call calls) → (s' : Step S V) × In s' (steps K calls) × R s') →
      (calls : List (Call S V)) (s : Step S V) → In s (steps K calls) → P s → (s' : Step S V) × Before s' s (steps K calls) × R s'
  before_each P R f [] s i p = elim i [ ]
  before_each P R f (call ∷ calls) s i p = elim (in_cons i) [
    | inl e ↦ (let r = f call calls (subst P e p) in (r.0, subst (λ x. Before r.0 x (newest call calls ∷ steps K calls)) (sym e) (then r.1), r.2))
    | inr j ↦ (let r = before_each P R f calls s j p in (r.0, since r.1, r.2))
  ]

  module _ (L : Lawful K) where
    -- the laws of the machine's run beside
    laws : (calls : List (Call S V)) (b : Beside calls) → Laws K (shown (run K calls) b.history)
    laws calls b = subst (Laws K) b.same (all_laws K L b.own)

    -- the write of a choice that is the newest step began before
    began_older : (c k : ℕ) (t : S) (v : V) (call : Call S V) (calls : List (Call S V)) → Chose c k t v (newest call calls) → (s' : Step S V) × In s' (steps K calls) × BeganWrite c k v s'
    began_older c k t v call calls p = go (beside (call ∷ calls))
      where
        go : Beside (call ∷ calls) → (s' : Step S V) × In s' (steps K calls) × BeganWrite c k v s'
        go b =
            let u = b.told in
            let e : b.history ≡ (M.chose c k t v ∷ u.1) = u.2 ∙ ap (λ es. es ++ u.1) (u.3.chosen c k t v p) in
            let i = (laws (call ∷ calls) b).chosen_was_begun c k t v (subst (In (M.chose c k t v)) (sym e) here) in
            let j = before_older (subst (Before (M.begun c k (Some v)) (M.chose c k t v)) e i) in
            told_from (steps K calls) u.1 u.4 (BeganWrite c k v) (M.begun c k (Some v)) (λ s es r. r.from_begun c k v) j

    -- a write that chose its timestamp began before
    chosen_began : (calls : List (Call S V)) (c k : ℕ) (t : S) (v : V) (s : Step S V) → In s (steps K calls) → Chose c k t v s → (s' : Step S V) × Before s' s (steps K calls) × BeganWrite c k v s'
    chosen_began calls c k t v = before_each (Chose c k t v) (BeganWrite c k v) (began_older c k t v) calls

    -- the write of an end that is the newest step chose before
    chose_older : (c k : ℕ) (t : S) (call : Call S V) (calls : List (Call S V)) → EndedWrite c k t (newest call calls) → (s' : Step S V) × In s' (steps K calls) × ((v : V) × Chose c k t v s')
    chose_older c k t call calls p = go (beside (call ∷ calls))
      where
        go : Beside (call ∷ calls) → (s' : Step S V) × In s' (steps K calls) × ((v : V) × Chose c k t v s')
        go b =
            let u = b.told in
            let w = u.3.ended_write c k t p in
            let e : b.history ≡ (M.finished c k t None w.0 ∷ u.1) = u.2 ∙ ap (λ es. es ++ u.1) w.1 in
            let i = (laws (call ∷ calls) b).finished_write_chosen c k t w.0 (subst (In (M.finished c k t None w.0)) (sym e) here) in
            let j = before_older (subst (Before (M.chose c k t i.0) (M.finished c k t None w.0)) e i.1) in
            told_from (steps K calls) u.1 u.4 (λ s. (v : V) × Chose c k t v s) (M.chose c k t i.0) (λ s es r a. (i.0, r.from_chose c k t i.0 a)) j

    -- a write that finished chose before
    finished_write_chose : (calls : List (Call S V)) (c k : ℕ) (t : S) (s : Step S V) → In s (steps K calls) → EndedWrite c k t s → (v : V) × (s' : Step S V) × Before s' s (steps K calls) × Chose c k t v s'
    finished_write_chose calls c k t s i p = let r = before_each (EndedWrite c k t) (λ s. (v : V) × Chose c k t v s) (chose_older c k t) calls s i p in (r.2.0, r.0, r.1, r.2.1)

    -- the read of an end that is the newest step began before
    read_began_older : (c k : ℕ) (t : S) (v : V) (call : Call S V) (calls : List (Call S V)) → EndedRead c k t v (newest call calls) → (s' : Step S V) × In s' (steps K calls) × BeganRead c k s'
    read_began_older c k t v call calls p = go (beside (call ∷ calls))
      where
        go : Beside (call ∷ calls) → (s' : Step S V) × In s' (steps K calls) × BeganRead c k s'
        go b =
            let u = b.told in
            let w = u.3.ended_read c k t v p in
            let e : b.history ≡ (M.finished c k t (Some v) w.0 ∷ u.1) = u.2 ∙ ap (λ es. es ++ u.1) w.1 in
            let i = (laws (call ∷ calls) b).finished_read_began c k t v w.0 (subst (In (M.finished c k t (Some v) w.0)) (sym e) here) in
            let j = before_older (subst (Before (M.begun c k None) (M.finished c k t (Some v) w.0)) e i) in
            told_from (steps K calls) u.1 u.4 (BeganRead c k) (M.begun c k None) (λ s es r. r.from_begun_read c k) j

    -- a read that finished began before
    finished_read_began : (calls : List (Call S V)) (c k : ℕ) (t : S) (v : V) (s : Step S V) → In s (steps K calls) → EndedRead c k t v s → (s' : Step S V) × Before s' s (steps K calls) × BeganRead c k s'
    finished_read_began calls c k t v = before_each (EndedRead c k t v) (BeganRead c k) (read_began_older c k t v) calls

    -- a read gives the initial pair, or that of a write among these steps
    Source : S → V → List (Step S V) → Type 0
    Source t v ss = (c' : ℕ) × (k' : ℕ) × (s' : Step S V) × (s'' : Step S V) × In s' ss × Chose c' k' t v s' × In s'' ss × BeganWrite c' k' v s''

    -- the pair of a read whose end is the newest step
    read_older : (c k : ℕ) (t : S) (v : V) (call : Call S V) (calls : List (Call S V)) → EndedRead c k t v (newest call calls) → ((t ≡ K.lowest) × (v ≡ K.initial)) ⊎ Source t v (steps K calls)
    unfolding Source
    read_older c k t v call calls p = go (beside (call ∷ calls))
      where
        go : Beside (call ∷ calls) → ((t ≡ K.lowest) × (v ≡ K.initial)) ⊎ Source t v (steps K calls)
        go b =
            let u = b.told in
            let w = u.3.ended_read c k t v p in
            let e : b.history ≡ (M.finished c k t (Some v) w.0 ∷ u.1) = u.2 ∙ ap (λ es. es ++ u.1) w.1 in
            elim ((laws (call ∷ calls) b).read_genuine c k t v w.0 (subst (In (M.finished c k t (Some v) w.0)) (sym e) here)) [
              | inl x ↦ inl x
              | inr (c', k', i) ↦ (
                  let j = before_older (subst (Before (M.chose c' k' t v) (M.finished c k t (Some v) w.0)) e i) in
                  let y = told_from (steps K calls) u.1 u.4 (Chose c' k' t v) (M.chose c' k' t v) (λ s es r. r.from_chose c' k' t v) j in
                  let z = chosen_began calls c' k' t v y.0 y.1 y.2 in
                  inr (c', k', y.0, z.0, y.1, y.2, before_in z.1, z.2))
            ]

    -- a read that finished gives the initial pair, or that of a write that began and chose before
    read_genuine : (calls : List (Call S V)) (c k : ℕ) (t : S) (v : V) (s : Step S V) → In s (steps K calls) → EndedRead c k t v s
        → ((t ≡ K.lowest) × (v ≡ K.initial))
        ⊎ ((c' : ℕ) × (k' : ℕ) × (s' : Step S V) × (s'' : Step S V) × Before s' s (steps K calls) × Chose c' k' t v s' × Before s'' s (steps K calls) × BeganWrite c' k' v s'')
    unfolding Source
    read_genuine [] c k t v s i p = elim i [ ]
    read_genuine (call ∷ calls) c k t v s i p = elim (in_cons i) [
      | inl e ↦ elim (read_older c k t v call calls (subst (EndedRead c k t v) e p)) [
        | inl x ↦ inl x
        | inr (c', k', s', s'', a, y, b, z) ↦ inr (c', k', s', s'', subst (λ x. Before s' x (newest call calls ∷ steps K calls)) (sym e) (then a), y, subst (λ x. Before s'' x (newest call calls ∷ steps K calls)) (sym e) (then b), z)
      ]
      | inr j ↦ elim (read_genuine calls c k t v s j p) [
        | inl x ↦ inl x
        | inr (c', k', s', s'', a, y, b, z) ↦ inr (c', k', s', s'', since a, y, since b, z)
      ]
    ]

    -- every run keeps the law
    pub run_law : (calls : List (Call S V)) → RunLaw K calls
    run_law calls = go (beside calls)
      where
        go : Beside calls → RunLaw K calls
        go b = record {
          later_write_above = λ c k t₁ t v v' s₁ s₂ s₃ i j ended began chose.
              let x = told_before (steps K calls) b.history b.told s₁ s₂ i in
              let y = told_in (steps K calls) b.history b.told s₃ j in
              let z = ended_in t₁ s₁ x.0 x.2 ended in
              (laws calls b).later_write_above z.0 z.1 c k t₁ t z.2 v' v z.3 (x.4 _ _ z.4 (in_only (x.3.began_write c k v began))) (y.2 _ (in_only (y.1.chosen c k t v' chose)));
          later_read_not_below = λ c k t₁ t v s₁ s₂ s₃ i j ended began read.
              let x = told_before (steps K calls) b.history b.told s₁ s₂ i in
              let y = told_in (steps K calls) b.history b.told s₃ j in
              let z = ended_in t₁ s₁ x.0 x.2 ended in
              let w = y.1.ended_read c k t v read in
              (laws calls b).later_read_not_below z.0 z.1 c k t₁ t z.2 v z.3 w.0 (x.4 _ _ z.4 (in_only (x.3.began_read c k began))) (y.2 _ (in_only w.1));
          writes_told_apart = λ c k c' k' t v v' s s' i j p q. (laws calls b).timestamps_differ c k c' k' t v v' (choice b c k t v s i p) (choice b c' k' t v' s' j q);
          chosen_once = λ c k t t' v v' s s' i j p q. (laws calls b).chosen_once c k t t' v v' (choice b c k t v s i p) (choice b c k t' v' s' j q);
          chosen_began = chosen_began calls;
          finished_write_chose = finished_write_chose calls;
          finished_read_began = finished_read_began calls;
          read_genuine = read_genuine calls;
          quiet_is_done = λ quiet c n. (laws calls b).quiet_is_done (λ l i.
              let x = in_map meaning l (run K calls).queue i in
              ap (run K calls).faulty (ap M.server_of x.1 ∙ meaning_server x.0) ∙ quiet x.0 x.2) c n;
        }
          where
            choice : (b : Beside calls) (c k : ℕ) (t : S) (v : V) (s : Step S V) → In s (steps K calls) → Chose c k t v s → In (M.chose c k t v) b.history
            choice b c k t v s i p = let y = told_in (steps K calls) b.history b.told s i in y.2 _ (in_only (y.1.chosen c k t v p))
