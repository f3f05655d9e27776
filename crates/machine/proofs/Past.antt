-- What the history keeps.
use Rattle.std.proofs.Common.{◌≡◌, ℕ, ◌<◌, ◌≤◌, Bool, true, false, ◌⊎◌, List, [], ◌∷◌, ◌++◌, Some, None, Option, sym, refl, ap, ◌∙◌, subst, inl, inr, arith}
use Rattle.protocol.specs.Settings.{Setting, Lawful}
use Rattle.protocol.specs.Clients.{Client}
use Rattle.protocol.specs.Runs.{is_asking, In, here, there, Before, then, since}
use Rattle.machine.proofs.Machine.{Event, begun, chose, finished, spent}
use Rattle.machine.proofs.Base.{t≢f, Le, le_trans, lt_le_lt_r}
use Rattle.machine.proofs.Safe.{Finish, Prior, Genuine, Choice, Past}

module _ {S V : Type 0} where
  -- no operation begins by the event
  abbrev pub NotBegun : Event S V → Type 0
  NotBegun (begun c k o) = ⊥
  NotBegun (chose c k s v) = Unit {0}
  NotBegun (finished c k s o q) = Unit {0}
  NotBegun (spent c k) = Unit {0}

  -- no timestamp is chosen by the event
  abbrev pub NotChose : Event S V → Type 0
  NotChose (begun c k o) = Unit {0}
  NotChose (chose c k s v) = ⊥
  NotChose (finished c k s o q) = Unit {0}
  NotChose (spent c k) = Unit {0}

  -- no operation finishes by the event
  abbrev pub NotFinished : Event S V → Type 0
  NotFinished (begun c k o) = Unit {0}
  NotFinished (chose c k s v) = Unit {0}
  NotFinished (finished c k s o q) = ⊥
  NotFinished (spent c k) = Unit {0}

  pub old_begun : (e : Event S V) {c k : ℕ} {o : Option V} {h : List (Event S V)} → NotBegun e → In (begun c k o) (e ∷ h) → In (begun c k o) h
  old_begun (begun c' k' o') n i = absurd n
  old_begun (chose c' k' s v) n (there i) = i
  old_begun (finished c' k' s v q) n (there i) = i
  old_begun (spent c' k') n (there i) = i

  pub old_chose : (e : Event S V) {c k : ℕ} {s : S} {v : V} {h : List (Event S V)} → NotChose e → In (chose c k s v) (e ∷ h) → In (chose c k s v) h
  old_chose (begun c' k' o') n (there i) = i
  old_chose (chose c' k' s v) n i = absurd n
  old_chose (finished c' k' s v q) n (there i) = i
  old_chose (spent c' k') n (there i) = i

  pub old_finished : (e : Event S V) {c k : ℕ} {s : S} {o : Option V} {q : ℕ → Bool} {h : List (Event S V)} → NotFinished e → In (finished c k s o q) (e ∷ h) → In (finished c k s o q) h
  old_finished (begun c' k' o') n (there i) = i
  old_finished (chose c' k' s v) n (there i) = i
  old_finished (finished c' k' s v q) n i = absurd n
  old_finished (spent c' k') n (there i) = i

  old_before : (e : Event S V) {a : Event S V} {c k : ℕ} {o : Option V} {h : List (Event S V)} → NotBegun e → Before a (begun c k o) (e ∷ h) → Before a (begun c k o) h
  old_before (begun c' k' o') n i = absurd n
  old_before (chose c' k' s v) n (since i) = i
  old_before (finished c' k' s v q) n (since i) = i
  old_before (spent c' k') n (since i) = i

  pub old_prior : (e : Event S V) {c k : ℕ} {s : S} {q : ℕ → Bool} {h : List (Event S V)} → NotBegun e → Prior (e ∷ h) c k s q → Prior h c k s q
  old_prior e n p = record { c₁ = p.c₁; k₁ = p.k₁; o₁ = p.o₁; o = p.o; at = old_before e n p.at }

  pub old_finish : (e : Event S V) {s : S} {q : ℕ → Bool} {h : List (Event S V)} → NotFinished e → Finish (e ∷ h) s q → Finish h s q
  old_finish e n p = record { c = p.c; k = p.k; o = p.o; at = old_finished e n p.at }

  -- a beginning with a new number makes no new predecessor of the older operations
  new_before : {a : Event S V} {c k : ℕ} {o : Option V} {c' k' : ℕ} {o' : Option V} {h : List (Event S V)} → Before a (begun c' k' o') (begun c k o ∷ h) → ((c' ≡ c) × (k' ≡ k)) ⊎ Before a (begun c' k' o') h
  new_before (then i) = inl (refl, refl)
  new_before (since p) = inr p

  pub new_prior : {c k : ℕ} {o : Option V} {c' k' : ℕ} {s : S} {q : ℕ → Bool} {h : List (Event S V)} → Prior (begun c k o ∷ h) c' k' s q → ((c' ≡ c) × (k' ≡ k)) ⊎ Prior h c' k' s q
  new_prior p = elim (new_before p.at) [ inl e ↦ inl e | inr i ↦ inr (record { c₁ = p.c₁; k₁ = p.k₁; o₁ = p.o₁; o = p.o; at = i }) ]

  new_begun : {c k c' k' : ℕ} {o o' : Option V} {h : List (Event S V)} → In (begun c' k' o') (begun c k o ∷ h) → ((c' ≡ c) × (k' ≡ k)) ⊎ In (begun c' k' o') h
  new_begun here = inl (refl, refl)
  new_begun (there i) = inr i

  new_chose : {c k c' k' : ℕ} {s s' : S} {v v' : V} {h : List (Event S V)} → In (chose c' k' s' v') (chose c k s v ∷ h) → ((c' ≡ c) × (k' ≡ k) × (s' ≡ s) × (v' ≡ v)) ⊎ In (chose c' k' s' v') h
  new_chose here = inl (refl, refl, refl, refl)
  new_chose (there i) = inr i

  pub new_finished : {c k c' k' : ℕ} {s s' : S} {o o' : Option V} {q q' : ℕ → Bool} {h : List (Event S V)} → In (finished c' k' s' o' q') (finished c k s o q ∷ h) → ((c' ≡ c) × (k' ≡ k) × (s' ≡ s) × (o' ≡ o) × (q' ≡ q)) ⊎ In (finished c' k' s' o' q') h
  new_finished here = inl (refl, refl, refl, refl, refl)
  new_finished (there i) = inr i

  pub new_finish : {c k : ℕ} {s s' : S} {o : Option V} {q q' : ℕ → Bool} {h : List (Event S V)} → Finish (finished c k s o q ∷ h) s' q' → ((s' ≡ s) × (q' ≡ q)) ⊎ Finish h s' q'
  new_finish p = elim (new_finished p.at) [ inl e ↦ inl (e.2, e.4) | inr i ↦ inr (record { c = p.c; k = p.k; o = p.o; at = i }) ]

module _ {S V : Type 0} (K : Setting S V) where
  -- the clients go on: a client that asks did so before in the same operation, or in a new one
  pub record Grows (cs cs' : ℕ → Client S V) : Type 0 where
    pub number : (c : ℕ) → (cs c).number ≤ (cs' c).number
    pub last : (c : ℕ) → Le K (cs c).last (cs' c).last
    pub ask : (c : ℕ) → is_asking (cs' c).phase ≡ true → ((is_asking (cs c).phase ≡ true) × ((cs' c).number ≡ (cs c).number)) ⊎ ((cs c).number < (cs' c).number)

  module _ (L : Lawful K) where
    module _ {h : List (Event S V)} {cs cs' : ℕ → Client S V} (p : Past K h cs) (g : Grows cs cs') where
      -- an event, or none, before the choices
      choice_later : (es : List (Event S V)) → ((e e' : Event S V) → Before e e' h → Before e e' (es ++ h)) → (c k : ℕ) (s : S) (v : V) → In (chose c k s v) h → Choice K (es ++ h) cs' c k s v
      choice_later es f c k s v i =
          let d = p.choice c k s v i in
          let a = g.number c in
          record {
            number = let n = d.number in omega arith;
            owner = d.owner;
            last = le_trans K L _ _ _ d.last (g.last c);
            origin = f _ _ d.origin;
            low = d.low;
            shut = λ x. elim (g.ask c x) [
              | inl y ↦ (let z = d.shut y.0 in let e = y.1 in omega arith)
              | inr y ↦ (let z = d.number in omega arith)
            ];
          }

      pub past_none : Past K h cs'
      past_none = record {
        number_begun = λ c k o i. let n = p.number_begun c k o i in let a = g.number c in omega arith;
        number_finished = λ c k s o q i. let n = p.number_finished c k s o q i in let a = g.number c in omega arith;
        choice = choice_later [] (λ e e' b. b);
        unique = p.unique;
        once = p.once;
        wrote = p.wrote;
        enough = p.enough;
        writes = p.writes;
        reads = p.reads;
        read_began = p.read_began;
        source = p.source;
      }

      since_wrote : (e : Event S V) (c k : ℕ) (s : S) (q : ℕ → Bool) → In (finished c k s None q) h → (v : V) × Before (chose c k s v) (finished c k s None q) (e ∷ h)
      since_wrote e c k s q i = let x = p.wrote c k s q i in (x.0, since x.1)

      since_source : (e : Event S V) (c k : ℕ) (s : S) (v : V) (q : ℕ → Bool) → In (finished c k s (Some v) q) h →
          ((s ≡ K.lowest) × (v ≡ K.initial)) ⊎ ((c' : ℕ) × (k' : ℕ) × Before (chose c' k' s v) (finished c k s (Some v) q) (e ∷ h))
      since_source e c k s v q i = elim (p.source c k s v q i) [ inl x ↦ inl x | inr x ↦ inr (x.0, x.1, since x.2) ]

      pub past_spent : (c k : ℕ) → Past K (spent c k ∷ h) cs'
      past_spent c k = record {
        number_begun = λ u j o i. past_none.number_begun u j o (old_begun e tt i);
        number_finished = λ u j s o q i. past_none.number_finished u j s o q (old_finished e tt i);
        choice = λ u j s v i. choice_later (e ∷ []) (λ _ _ b. since b) u j s v (old_chose e tt i);
        unique = λ u j u' j' s v v' i i'. p.unique u j u' j' s v v' (old_chose e tt i) (old_chose e tt i');
        once = λ u j t t' x x' i i'. p.once u j t t' x x' (old_chose e tt i) (old_chose e tt i');
        wrote = λ u j t y i. since_wrote e u j t y (old_finished e tt i);
        enough = λ s q f. p.enough s q (old_finish e tt f);
        writes = λ u j s₁ s v q f i. p.writes u j s₁ s v q (old_prior e tt f) (old_chose e tt i);
        reads = λ u j s₁ s v q₁ q f i. p.reads u j s₁ s v q₁ q (old_prior e tt f) (old_finished e tt i);
        read_began = λ u j s v q i. since (p.read_began u j s v q (old_finished e tt i));
        source = λ u j s v q i. since_source e u j s v q (old_finished e tt i);
      }
        where
          e : Event S V
          e = spent c k

      pub past_begun : (c k : ℕ) (o : Option V) → (cs c).number < k → k ≤ (cs' c).number → Past K (begun c k o ∷ h) cs'
      past_begun c k o lt le = record {
        number_begun = λ u j o' i. elim (new_begun i) [ inl x ↦ subst (λ u. j ≤ (cs' u).number) (sym x.0) (let y = x.1 in omega arith) | inr i ↦ past_none.number_begun u j o' i ];
        number_finished = λ u j s o q i. past_none.number_finished u j s o q (old_finished e tt i);
        choice = λ u j s v i. choice_later (e ∷ []) (λ _ _ b. since b) u j s v (old_chose e tt i);
        unique = λ u j u' j' s v v' i i'. p.unique u j u' j' s v v' (old_chose e tt i) (old_chose e tt i');
        once = λ u j t t' x x' i i'. p.once u j t t' x x' (old_chose e tt i) (old_chose e tt i');
        wrote = λ u j t y i. since_wrote e u j t y (old_finished e tt i);
        enough = λ s q f. p.enough s q (old_finish e tt f);
        writes = λ u j s₁ s v q f i. elim (new_prior f) [
          | inl x ↦ absurd (let y = x.1 in let n : j ≤ (cs c).number = subst (λ u. j ≤ (cs u).number) x.0 (p.choice u j s v (old_chose e tt i)).number in omega arith)
          | inr f ↦ p.writes u j s₁ s v q f (old_chose e tt i)
        ];
        reads = λ u j s₁ s v q₁ q f i. elim (new_prior f) [
          | inl x ↦ absurd (let y = x.1 in let n : j ≤ (cs c).number = subst (λ u. j ≤ (cs u).number) x.0 (p.number_finished u j s (Some v) q (old_finished e tt i)) in omega arith)
          | inr f ↦ p.reads u j s₁ s v q₁ q f (old_finished e tt i)
        ];
        read_began = λ u j s v q i. since (p.read_began u j s v q (old_finished e tt i));
        source = λ u j s v q i. since_source e u j s v q (old_finished e tt i);
      }
        where
          e : Event S V
          e = begun c k o

      -- a timestamp that a write may choose now
      pub record NewChoice (c k : ℕ) (s : S) (v : V) : Type 0 where
        pub number : k ≤ (cs c).number
        pub owner : K.owner s ≡ c
        pub above : K.rules.above s (cs c).last ≡ true
        pub last : Le K s (cs' c).last
        pub origin : In (begun c k (Some v)) h
        pub asked : is_asking (cs c).phase ≡ true
        pub current : k ≡ (cs c).number
        pub shut : is_asking (cs' c).phase ≡ false
        pub floor : (s₁ : S) (q : ℕ → Bool) → Prior h c k s₁ q → K.rules.above s s₁ ≡ true

      not_yet : {c k : ℕ} {s : S} {v : V} → NewChoice c k s v → {c' k' : ℕ} {v' : V} → In (chose c' k' s v') h → ⊥
      not_yet {c} {k} {s} {v} d {c'} {k'} {v'} i =
          let d' = p.choice c' k' s v' i in
          let o : c' ≡ c = sym d'.owner ∙ d.owner in
          t≢f d.above (subst (λ u. Le K s (cs u).last) o d'.last)

      not_twice : {c k : ℕ} {s : S} {v : V} → NewChoice c k s v → {c' k' : ℕ} {s' : S} {v' : V} → c' ≡ c → k' ≡ k → In (chose c' k' s' v') h → ⊥
      not_twice {c} {k} {s} {v} d {c'} {k'} {s'} {v'} ec ek i =
          let d' = (p.choice c' k' s' v' i).shut (subst (λ c. is_asking (cs c).phase ≡ true) (sym ec) d.asked) in
          let n : (cs c').number ≡ (cs c).number = ap (λ c. (cs c).number) ec in
          let m = d.current in
          omega arith

      choice_new : (c k : ℕ) (s : S) (v : V) → NewChoice c k s v → Choice K (chose c k s v ∷ h) cs' c k s v
      choice_new c k s v d = record {
        number = let n = d.number in let a = g.number c in omega arith;
        owner = d.owner;
        last = d.last;
        origin = then d.origin;
        low = lt_le_lt_r K L K.lowest (cs c).last s (L.timestamps.lowest_below (cs c).last) d.above;
        shut = λ x. absurd (t≢f x d.shut);
      }

      pub past_chose : (c k : ℕ) (s : S) (v : V) → NewChoice c k s v → Past K (chose c k s v ∷ h) cs'
      past_chose c k s v d = record {
        number_begun = λ u j o i. past_none.number_begun u j o (old_begun e tt i);
        number_finished = λ u j t o q i. past_none.number_finished u j t o q (old_finished e tt i);
        choice = λ u j t x i. choose u j t x i;
        unique = λ u j u' j' t x x' i i'. elim (new_chose i) [
          | inl a ↦ elim (new_chose i') [
            | inl b ↦ (cc (a.0, b.0), cc (a.1, b.1), cc (a.3, b.3))
            | inr i' ↦ absurd (not_yet d (subst (λ t. In (chose u' j' t x') h) a.2 i'))
          ]
          | inr i ↦ elim (new_chose i') [
            | inl b ↦ absurd (not_yet d (subst (λ t. In (chose u j t x) h) b.2 i))
            | inr i' ↦ p.unique u j u' j' t x x' i i'
          ]
        ];
        once = λ u j t t' x x' i i'. elim (new_chose i) [
          | inl a ↦ elim (new_chose i') [
            | inl b ↦ cc (a.2, b.2)
            | inr i' ↦ absurd (not_twice d a.0 a.1 i')
          ]
          | inr i ↦ elim (new_chose i') [
            | inl b ↦ absurd (not_twice d b.0 b.1 i)
            | inr i' ↦ p.once u j t t' x x' i i'
          ]
        ];
        wrote = λ u j t y i. since_wrote e u j t y (old_finished e tt i);
        enough = λ s q f. p.enough s q (old_finish e tt f);
        writes = λ u j s₁ t x q f i. elim (new_chose i) [
          | inl a ↦ subst (λ t. K.rules.above t s₁ ≡ true) (sym a.2) (d.floor s₁ q (subst (λ u. Prior h u k s₁ q) a.0 (subst (λ j. Prior h u j s₁ q) a.1 (old_prior e tt f))))
          | inr i ↦ p.writes u j s₁ t x q (old_prior e tt f) i
        ];
        reads = λ u j s₁ s v q₁ q f i. p.reads u j s₁ s v q₁ q (old_prior e tt f) (old_finished e tt i);
        read_began = λ u j s v q i. since (p.read_began u j s v q (old_finished e tt i));
        source = λ u j s v q i. since_source e u j s v q (old_finished e tt i);
      }
        where
          e : Event S V
          e = chose c k s v

          choose : (u j : ℕ) (t : S) (x : V) → In (chose u j t x) (chose c k s v ∷ h) → Choice K (chose c k s v ∷ h) cs' u j t x
          choose u j t x i = elim (new_chose i) [
            | inl a ↦ subst (λ u. Choice K (chose c k s v ∷ h) cs' u j t x) (sym a.0) (subst (λ j. Choice K (chose c k s v ∷ h) cs' c j t x) (sym a.1) (subst (λ t. Choice K (chose c k s v ∷ h) cs' c k t x) (sym a.2) (subst (λ x. Choice K (chose c k s v ∷ h) cs' c k s x) (sym a.3) (choice_new c k s v d))))
            | inr i ↦ choice_later (e ∷ []) (λ _ _ b. since b) u j t x i
          ]

      pub past_finished : (c k : ℕ) (s : S) (o : Option V) (q : ℕ → Bool) → k ≤ (cs c).number → K.rules.quorum q ≡ true →
          ((v : V) → o ≡ Some v → Genuine K h s v × ((s₁ : S) (q₁ : ℕ → Bool) → Prior h c k s₁ q₁ → Le K s₁ s) × In (begun c k None) h) → (o ≡ None → (v : V) × In (chose c k s v) h) → Past K (finished c k s o q ∷ h) cs'
      past_finished c k s o q n enough rd wr = record {
        number_begun = λ u j o i. past_none.number_begun u j o (old_begun e tt i);
        number_finished = λ u j t x y i. elim (new_finished i) [
          | inl a ↦ (let m = g.number c in let b = a.1 in subst (λ u. j ≤ (cs' u).number) (sym a.0) (omega arith))
          | inr i ↦ past_none.number_finished u j t x y i
        ];
        choice = λ u j s v i. choice_later (e ∷ []) (λ _ _ b. since b) u j s v (old_chose e tt i);
        unique = λ u j u' j' s v v' i i'. p.unique u j u' j' s v v' (old_chose e tt i) (old_chose e tt i');
        once = λ u j t t' x x' i i'. p.once u j t t' x x' (old_chose e tt i) (old_chose e tt i');
        wrote = λ u j t y i. elim (new_finished i) [
          | inl a ↦ wrote_new u j t y a
          | inr i ↦ since_wrote e u j t y i
        ];
        enough = λ t y f. elim (new_finish f) [ inl a ↦ subst (λ q. K.rules.quorum q ≡ true) (sym a.1) enough | inr f ↦ p.enough t y f ];
        writes = λ u j s₁ s v q f i. p.writes u j s₁ s v q (old_prior e tt f) (old_chose e tt i);
        reads = λ u j s₁ t v q₁ y f i. elim (new_finished i) [
          | inl a ↦ subst (λ t. Le K s₁ t) (sym a.2) ((rd v (sym a.3)).1 s₁ q₁ (subst (λ u. Prior h u k s₁ q₁) a.0 (subst (λ j. Prior h u j s₁ q₁) a.1 (old_prior e tt f))))
          | inr i ↦ p.reads u j s₁ t v q₁ y (old_prior e tt f) i
        ];
        read_began = λ u j t v y i. elim (new_finished i) [
          | inl a ↦ began_new u j t v y a
          | inr i ↦ since (p.read_began u j t v y i)
        ];
        source = λ u j t v y i. elim (new_finished i) [
          | inl a ↦ source_new u j t v y a
          | inr i ↦ since_source e u j t v y i
        ];
      }
        where
          e : Event S V
          e = finished c k s o q

          wrote_new : (u j : ℕ) (t : S) (y : ℕ → Bool) → (u ≡ c) × (j ≡ k) × (t ≡ s) × (None ≡ o) × (y ≡ q) → (v : V) × Before (chose u j t v) (finished u j t None y) (finished c k s o q ∷ h)
          wrote_new u j t y a =
              let x = wr (sym a.3) in
              (x.0, subst (λ (e' : Event S V). Before (chose u j t x.0) e' (finished c k s o q ∷ h)) (sym same) (then (subst (λ (e' : Event S V). In e' h) (sym same') x.1)))
            where
              same : finished u j t None y ≡ finished c k s o q
              same = cc

              same' : chose u j t (wr (sym a.3)).0 ≡ chose c k s (wr (sym a.3)).0
              same' = cc

          began_new : (u j : ℕ) (t : S) (v : V) (y : ℕ → Bool) → (u ≡ c) × (j ≡ k) × (t ≡ s) × (Some v ≡ o) × (y ≡ q) → Before (begun u j None) (finished u j t (Some v) y) (finished c k s o q ∷ h)
          began_new u j t v y a =
              subst (λ (e' : Event S V). Before (begun u j None) e' (finished c k s o q ∷ h)) (sym same) (then (subst (λ (e' : Event S V). In e' h) (sym same') (rd v (sym a.3)).2))
            where
              same : finished u j t (Some v) y ≡ finished c k s o q
              same = cc

              same' : ◌≡◌ {A = Event S V} (begun u j None) (begun c k None)
              same' = cc

          source_new : (u j : ℕ) (t : S) (v : V) (y : ℕ → Bool) → (u ≡ c) × (j ≡ k) × (t ≡ s) × (Some v ≡ o) × (y ≡ q) →
              ((t ≡ K.lowest) × (v ≡ K.initial)) ⊎ ((c' : ℕ) × (k' : ℕ) × Before (chose c' k' t v) (finished u j t (Some v) y) (finished c k s o q ∷ h))
          source_new u j t v y a = elim (rd v (sym a.3)).0 [
            | inl x ↦ inl (a.2 ∙ x.0, x.1)
            | inr x ↦ inr (
              x.0,
              x.1,
              subst (λ (e' : Event S V). Before (chose x.0 x.1 t v) e' (finished c k s o q ∷ h)) (sym same)
                  (then (subst (λ t. In (chose x.0 x.1 t v) h) (sym a.2) x.2)),
            )
          ]
            where
              same : finished u j t (Some v) y ≡ finished c k s o q
              same = cc
