-- Which timestamps are watched, and when nothing is decided.
use Rattle.std.proofs.Common.{◌≡◌, ℕ, zero, suc, ◌<◌, ◌≤◌, Bool, true, false, cond, not, ◌&&◌, ◌||◌, eqb, ltb, ◌⊎◌, List, [], ◌∷◌, ◌++◌, Some, None, Option, sym, refl, ap, ◌∙◌, subst, inl, inr, arith}
use Rattle.reading.specs.Readings.{Reading, level, among, ahead, backers, value_of, better, leads, leaders, backed, decide}
use Rattle.protocol.specs.Settings.{Setting, Lawful}
use Rattle.machine.proofs.Base.{t≢f, Some≢None, either, eq_of, lt_of, and_l, and_r, and_both, Le, le_trans, lt_le, le_eq, level_eq, level_refl}
use Rattle.machine.proofs.SafeRead.{says_some}

module _ {S V : Type 0} (K : Setting S V) where
  -- the correct entered server that no correct entered server is ahead of
  pub record Best (faulty : ℕ → Bool) (z : Reading S V) (m : ℕ) : Type 0 where
    pub server : ℕ
    pub lt : server < m
    pub correct : faulty server ≡ false
    pub entered : z.entered server ≡ true
    pub most : (d' : ℕ) → d' < m → faulty d' ≡ false → z.entered d' ≡ true → Le K (z.latest d') (z.latest server) × (Le K (z.latest server) (z.latest d') → server ≤ d')

  module _ (L : Lawful K) where
    below_suc : (d' m : ℕ) → d' < suc m → (d' ≡ m) ⊎ (d' < m)
    below_suc d' m h = go (eqb d' m) refl
      where
        go : (t : Bool) → eqb d' m ≡ t → (d' ≡ m) ⊎ (d' < m)
        go true e = inl (eq_of d' m e)
        go false e = inr (grind arith)

    module _ (faulty : ℕ → Bool) (z : Reading S V) where
      pub best : (m : ℕ) → ((d' : ℕ) → d' < m → faulty d' ≡ false → z.entered d' ≡ false) ⊎ Best faulty z m
      best zero = inl (λ d' h. absurd (omega arith))
      best (suc m) = go (best m) (either (faulty m)) (either (z.entered m))
        where
          below : (B : Best faulty z m) → ((d' : ℕ) → d' ≡ m → faulty d' ≡ false → z.entered d' ≡ true → Le K (z.latest d') (z.latest B.server) × (Le K (z.latest B.server) (z.latest d') → B.server ≤ d')) → Best faulty z (suc m)
          below B f = record {
            server = B.server;
            lt = let h = B.lt in omega arith;
            correct = B.correct;
            entered = B.entered;
            most = λ d' h s e. elim (below_suc d' m h) [ inl q ↦ f d' q s e | inr q ↦ B.most d' q s e ];
          }

          go : ((d' : ℕ) → d' < m → faulty d' ≡ false → z.entered d' ≡ false) ⊎ Best faulty z m → (faulty m ≡ true) ⊎ (faulty m ≡ false) → (z.entered m ≡ true) ⊎ (z.entered m ≡ false) →
              ((d' : ℕ) → d' < suc m → faulty d' ≡ false → z.entered d' ≡ false) ⊎ Best faulty z (suc m)
          go (inl f) (inl c) e = inl (λ d' h s. elim (below_suc d' m h) [ inl q ↦ absurd (t≢f c (subst (λ d'. faulty d' ≡ false) q s)) | inr q ↦ f d' q s ])
          go (inl f) (inr c) (inl e) = inr (record {
            server = m;
            lt = omega arith;
            correct = c;
            entered = e;
            most = λ d' h s i. elim (below_suc d' m h) [
              | inl q ↦ (le_eq K L _ _ (ap z.latest q), λ _. omega arith)
              | inr q ↦ absurd (t≢f i (f d' q s))
            ];
          })
          go (inl f) (inr c) (inr e) = inl (λ d' h s. elim (below_suc d' m h) [ inl q ↦ subst (λ d'. z.entered d' ≡ false) (sym q) e | inr q ↦ f d' q s ])
          go (inr B) (inl c) e = inr (below B (λ d' q s i. absurd (t≢f c (subst (λ d'. faulty d' ≡ false) q s))))
          go (inr B) (inr c) (inr e) = inr (below B (λ d' q s i. absurd (t≢f i (subst (λ d'. z.entered d' ≡ false) (sym q) e))))
          go (inr B) (inr c) (inl e) = elim (either (K.rules.above (z.latest m) (z.latest B.server))) [
            | inl a ↦ inr (record {
              server = m;
              lt = omega arith;
              correct = c;
              entered = e;
              most = λ d' h s i. elim (below_suc d' m h) [
                | inl q ↦ (le_eq K L _ _ (ap z.latest q), λ _. omega arith)
                | inr q ↦
                    (let p = B.most d' q s i in
                    (le_trans K L _ _ _ p.0 (lt_le K L _ _ a), λ l. absurd (t≢f a (le_trans K L _ _ _ l p.0))))
              ];
            })
            | inr a ↦ inr (below B (λ d' q s i. (subst (λ d'. Le K (z.latest d') (z.latest B.server)) (sym q) a, λ _. let h = B.lt in omega arith)))
          ]

      or_false : (a b : Bool) → a ≡ false → b ≡ false → (a || b) ≡ false
      or_false a b p q = cc

      not_ahead : (B : Best faulty z K.rules.n) → (d' : ℕ) → d' < K.rules.n → ahead K.rules.above z B.server d' ≡ true → faulty d' ≡ true
      not_ahead B d' h a = go (faulty d') refl
        where
          go : (t : Bool) → faulty d' ≡ t → faulty d' ≡ true
          go true e = e
          go false e = absurd (t≢f a2 clear)
            where
              en : z.entered d' ≡ true
              en = and_l _ _ a

              p : Le K (z.latest d') (z.latest B.server) × (Le K (z.latest B.server) (z.latest d') → B.server ≤ d')
              p = B.most d' h e en

              a2 : (K.rules.above (z.latest d') (z.latest B.server) || (not (K.rules.above (z.latest B.server) (z.latest d')) && ltb d' B.server)) ≡ true
              a2 = and_r (z.entered d') _ a

              tie : (not (K.rules.above (z.latest B.server) (z.latest d')) && ltb d' B.server) ≡ false
              tie = elim (either (K.rules.above (z.latest B.server) (z.latest d'))) [
                | inl u ↦ cc
                | inr u ↦ (let v = p.1 u in elim (either (ltb d' B.server)) [ inl x ↦ absurd (let y = lt_of _ _ x in omega arith) | inr x ↦ cc ])
              ]

              clear : (K.rules.above (z.latest d') (z.latest B.server) || (not (K.rules.above (z.latest B.server) (z.latest d')) && ltb d' B.server)) ≡ false
              clear = or_false _ _ p.0 tie

      pub best_leads : K.rules.fail_prone faulty ≡ true → (B : Best faulty z K.rules.n) → leads K.rules z B.server ≡ true
      best_leads f B = and_both _ _ B.entered (L.quorums.part_fail_prone (ahead K.rules.above z B.server) faulty (not_ahead B) f)

    or_l : (a b : Bool) → a ≡ true → (a || b) ≡ true
    or_l a b p = cc

    or_r : (a b : Bool) → b ≡ true → (a || b) ≡ true
    or_r true b p = refl
    or_r false b p = p

    among_l : (s : S) (xs ys : List S) → among K.rules.above s xs ≡ true → among K.rules.above s (xs ++ ys) ≡ true
    among_l s [] ys e = absurd (t≢f e refl)
    among_l s (x ∷ xs) ys e = go (level K.rules.above s x) e (among_l s xs ys)
      where
        go : (t : Bool) → (t || among K.rules.above s xs) ≡ true → (among K.rules.above s xs ≡ true → among K.rules.above s (xs ++ ys) ≡ true) → (t || among K.rules.above s (xs ++ ys)) ≡ true
        go true e ih = refl
        go false e ih = ih e

    among_r : (s : S) (xs ys : List S) → among K.rules.above s ys ≡ true → among K.rules.above s (xs ++ ys) ≡ true
    among_r s [] ys e = e
    among_r s (x ∷ xs) ys e = or_r (level K.rules.above s x) _ (among_r s xs ys e)

    pub leader_watched : (z : Reading S V) (m d : ℕ) → d < m → leads K.rules z d ≡ true → among K.rules.above (z.latest d) (leaders K.rules z m) ≡ true
    leader_watched z zero d h l = absurd (omega arith)
    leader_watched z (suc m) d h l = elim (below_suc d m h) [
      | inl q ↦ among_r (z.latest d) (leaders K.rules z m) _ (subst (λ d'. among K.rules.above (z.latest d) (cond (leads K.rules z d') (z.latest d' ∷ []) []) ≡ true) q
          (subst (λ t. among K.rules.above (z.latest d) (cond t (z.latest d ∷ []) []) ≡ true) (sym l) (or_l _ _ (level_refl K L (z.latest d)))))
      | inr q ↦ among_l (z.latest d) (leaders K.rules z m) _ (leader_watched z m d q l)
    ]

    -- nothing is decided: no quorum agrees on a watched timestamp
    backed_none : (r : Reading S V) (s : S) (n : ℕ) → backed K.rules r s n ≡ None → (b : ℕ) → b < n → (v : V) → r.evidence b s ≡ Some v → K.rules.quorum (backers K.rules.same r s v) ≡ false
    backed_none r s zero e b h v i = absurd (omega arith)
    backed_none r s (suc n) e b h v i = go (r.evidence n s) refl e (λ e h. backed_none r s n e b h v i)
      where
        go : (o : Option V) → r.evidence n s ≡ o → value_of (λ v. K.rules.quorum (backers K.rules.same r s v)) o (backed K.rules r s n) ≡ None → (backed K.rules r s n ≡ None → b < n → K.rules.quorum (backers K.rules.same r s v) ≡ false) → K.rules.quorum (backers K.rules.same r s v) ≡ false
        go None q e ih = elim (below_suc b n h) [ inl x ↦ absurd (Some≢None i (ap (λ b. r.evidence b s) x ∙ q)) | inr x ↦ ih e x ]
        go (Some u) q e ih = pick (K.rules.quorum (backers K.rules.same r s u)) refl e
          where
            pick : (t : Bool) → K.rules.quorum (backers K.rules.same r s u) ≡ t → cond t (Some u) (backed K.rules r s n) ≡ None → K.rules.quorum (backers K.rules.same r s v) ≡ false
            pick true f e = absurd (Some≢None (sym e) refl)
            pick false f e = elim (below_suc b n h) [
              | inl x ↦ (let y : Some u ≡ Some v = sym q ∙ sym (ap (λ b. r.evidence b s) x) ∙ i in let z : u ≡ v = cc in subst (λ v. K.rules.quorum (backers K.rules.same r s v) ≡ false) z f)
              | inr x ↦ ih e x
            ]

    pub decide_none : (r : Reading S V) (ss : List S) → decide K.rules r ss ≡ None → (s : S) → among K.rules.above s ss ≡ true → (v : V) → K.rules.quorum (backers K.rules.same r s v) ≡ true → ⊥
    decide_none r [] e s a v q = t≢f a refl
    decide_none r (x ∷ ss) e s a v q = go (backed K.rules r x K.rules.n) refl (decide K.rules r ss) refl e (either (level K.rules.above s x)) (λ e a. decide_none r ss e s a v q)
      where
        head : backed K.rules r x K.rules.n ≡ None → s ≡ x → ⊥
        head f h =
            let d = L.quorums.quorums_meet (backers K.rules.same r s v) (backers K.rules.same r s v) (λ b. false) q q L.quorums.none_fail_prone in
            let i : r.evidence d.0 s ≡ Some v = says_some K L _ _ d.2 in
            t≢f q (subst (λ s. K.rules.quorum (backers K.rules.same r s v) ≡ false) (sym h) (backed_none r x K.rules.n f d.0 d.1 v (subst (λ s. r.evidence d.0 s ≡ Some v) h i)))

        go : (o : Option V) → backed K.rules r x K.rules.n ≡ o → (d' : Option (S × V)) → decide K.rules r ss ≡ d' → better K.rules.above x o d' ≡ None → (level K.rules.above s x ≡ true) ⊎ (level K.rules.above s x ≡ false) → (decide K.rules r ss ≡ None → among K.rules.above s ss ≡ true → ⊥) → ⊥
        go None f d' g e (inl h) ih = head f (level_eq K L s x h)
        go None f d' g e (inr h) ih = ih (g ∙ e) (later (level K.rules.above s x) h a)
          where
            later : (t : Bool) → t ≡ false → (t || among K.rules.above s ss) ≡ true → among K.rules.above s ss ≡ true
            later true p a = absurd (t≢f refl p)
            later false p a = a
        go (Some u) f None g e h ih = Some≢None (sym e) refl
        go (Some u) f (Some p) g e h ih = pick (K.rules.above p.0 x) e
          where
            pick : (t : Bool) → cond t (Some p) (Some (x, u)) ≡ None → ⊥
            pick true e = Some≢None (sym e) refl
            pick false e = Some≢None (sym e) refl
