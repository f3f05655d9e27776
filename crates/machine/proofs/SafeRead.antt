-- A reading client takes a VALUE.
use Rattle.std.proofs.Common.{◌≡◌, ℕ, zero, suc, Bool, true, false, cond, not, ◌&&◌, ◌||◌, eqb, List, [], ◌∷◌, Some, None, Option, sym, refl, ap, ◌∙◌, subst, le_refl}
use Rattle.reading.specs.Readings.{Reading, level, among, newer, raised, noted, says, backers, value_of, better, leaders, rewatched, heard, backed, decide}
use Rattle.protocol.specs.Settings.{Setting, Lawful}
use Rattle.protocol.specs.Clients.{Phase, idle, asking, storing, reading}
use Rattle.machine.proofs.Machine.{Msg, stop, State, decided, on_value}
use Rattle.machine.proofs.Base.{t≢f, Some≢None, by_cond, eq_of, and_l, and_r, All, all_to, level_eq}
use Rattle.machine.proofs.Safe.{prior_finish, Genuine, Seen, Good, ReadOk, GoodPhase, Safe}
use Rattle.machine.proofs.SafeClient.{safe_drop, number_at, safe_plain, safe_finished}

module _ {S V : Type 0} (K : Setting S V) (L : Lawful K) where
  pub says_some : (o : Option V) (v : V) → says K.rules.same o v ≡ true → o ≡ Some v
  says_some None v e = absurd (t≢f e refl)
  says_some (Some u) v e = ap Some (L.values.equal u v e)

  -- what is decided has a quorum behind it
  pub backed_quorum : (r : Reading S V) (s : S) (n : ℕ) (v : V) → backed K.rules r s n ≡ Some v → K.rules.quorum (backers K.rules.same r s v) ≡ true
  backed_quorum r s zero v e = absurd (Some≢None e refl)
  backed_quorum r s (suc n) v e = go (r.evidence n s) e (backed_quorum r s n v)
    where
      go : (o : Option V) → value_of (λ v. K.rules.quorum (backers K.rules.same r s v)) o (backed K.rules r s n) ≡ Some v → (backed K.rules r s n ≡ Some v → K.rules.quorum (backers K.rules.same r s v) ≡ true) → K.rules.quorum (backers K.rules.same r s v) ≡ true
      go None e ih = ih e
      go (Some u) e ih = pick (K.rules.quorum (backers K.rules.same r s u)) refl e
        where
          pick : (t : Bool) → K.rules.quorum (backers K.rules.same r s u) ≡ t → cond t (Some u) (backed K.rules r s n) ≡ Some v → K.rules.quorum (backers K.rules.same r s v) ≡ true
          pick true f e = let g : u ≡ v = cc in subst (λ v. K.rules.quorum (backers K.rules.same r s v) ≡ true) g f
          pick false f e = ih e

  pub decide_quorum : (r : Reading S V) (ss : List S) (p : S × V) → decide K.rules r ss ≡ Some p → K.rules.quorum (backers K.rules.same r p.0 p.1) ≡ true
  decide_quorum r [] p e = absurd (Some≢None e refl)
  decide_quorum r (s ∷ ss) p e = go (decide_quorum r ss p) (backed K.rules r s K.rules.n) refl (decide K.rules r ss) refl e
    where
      one : (v : V) → backed K.rules r s K.rules.n ≡ Some v → Some (s, v) ≡ Some p → K.rules.quorum (backers K.rules.same r p.0 p.1) ≡ true
      one v f e =
          let a : s ≡ p.0 = cc in
          let b : v ≡ p.1 = cc in
          subst (λ x. K.rules.quorum (backers K.rules.same r x p.1) ≡ true) a (subst (λ x. K.rules.quorum (backers K.rules.same r s x) ≡ true) b (backed_quorum r s K.rules.n v f))

      go : (decide K.rules r ss ≡ Some p → K.rules.quorum (backers K.rules.same r p.0 p.1) ≡ true) → (o : Option V) → backed K.rules r s K.rules.n ≡ o → (d' : Option (S × V)) → decide K.rules r ss ≡ d' → better K.rules.above s o d' ≡ Some p → K.rules.quorum (backers K.rules.same r p.0 p.1) ≡ true
      go ih None f d' g e = ih (g ∙ e)
      go ih (Some v) f None g e = one v f e
      go ih (Some v) f (Some x) g e = pick (K.rules.above x.0 s) e
        where
          pick : (t : Bool) → cond t (Some x) (Some (s, v)) ≡ Some p → K.rules.quorum (backers K.rules.same r p.0 p.1) ≡ true
          pick true e = ih (g ∙ e)
          pick false e = one v f e

  module _ (σ : State S V) (c k : ℕ) (r : Reading S V) (g : ReadOk K σ c k r) where
    rewatched_ok : ReadOk K σ c k (rewatched K.rules r)
    rewatched_ok = record { origin = g.origin; latest = g.latest; evidence = λ d t u f e. go d t u f (among K.rules.above t (leaders K.rules r K.rules.n)) e }
      where
        inner : (d : ℕ) (t : S) (u : V) → σ.faulty d ≡ false → (x : Bool) → (r.entered d && level K.rules.above (r.latest d) t) ≡ x → cond x (Some (r.latest_value d)) (r.evidence d t) ≡ Some u → Seen K σ c d k t u
        inner d t u f true i e =
            let a = g.latest d f (and_l _ _ i) in
            let q : r.latest d ≡ t = level_eq K L _ _ (and_r (r.entered d) _ i) in
            let z : r.latest_value d ≡ u = cc in
            subst (λ t. Seen K σ c d k t u) q (subst (λ u. Seen K σ c d k (r.latest d) u) z a)
        inner d t u f false i e = g.evidence d t u f e

        go : (d : ℕ) (t : S) (u : V) → σ.faulty d ≡ false → (x : Bool) → cond x (cond (r.entered d && level K.rules.above (r.latest d) t) (Some (r.latest_value d)) (r.evidence d t)) None ≡ Some u → Seen K σ c d k t u
        go d t u f true e = inner d t u f (r.entered d && level K.rules.above (r.latest d) t) refl e
        go d t u f false e = absurd (Some≢None e refl)

    module _ (b : ℕ) (s : S) (v : V) (l : σ.faulty b ≡ false → Seen K σ c b k s v) where
      seen_at : (d : ℕ) → σ.faulty d ≡ false → b ≡ d → Seen K σ c d k s v
      seen_at d f e = subst (λ d. Seen K σ c d k s v) e (l (subst (λ d. σ.faulty d ≡ false) (sym e) f))

      pub raised_ok : ReadOk K σ c k (raised K.rules.above r b s v)
      raised_ok = record { origin = g.origin; latest = λ d f i. go d f (eqb b d) refl i; evidence = g.evidence }
        where
          new : (x : Bool) → newer K.rules.above r b s ≡ x → σ.faulty b ≡ false → Seen K σ c b k (cond x s (r.latest b)) (cond x v (r.latest_value b))
          new true e f = l f
          new false e f = g.latest b f (was (r.entered b) e)
            where
              was : (y : Bool) → (not y || K.rules.above s (r.latest b)) ≡ false → y ≡ true
              was true e = refl
              was false e = sym e

          go : (d : ℕ) → σ.faulty d ≡ false → (x : Bool) → eqb b d ≡ x → cond x true (r.entered d) ≡ true →
              Seen K σ c d k (cond x (cond (newer K.rules.above r b s) s (r.latest b)) (r.latest d)) (cond x (cond (newer K.rules.above r b s) v (r.latest_value b)) (r.latest_value d))
          go d f true e i =
              let e' = eq_of b d e in
              subst (λ d. Seen K σ c d k (cond (newer K.rules.above r b s) s (r.latest b)) (cond (newer K.rules.above r b s) v (r.latest_value b))) e' (new (newer K.rules.above r b s) refl (subst (λ d. σ.faulty d ≡ false) (sym e') f))
          go d f false e i = g.latest d f i

      noted_ok : ReadOk K σ c k (noted K.rules.above r b s v)
      noted_ok = record { origin = g.origin; latest = g.latest; evidence = λ d t u f e. go d t u f (eqb b d && (level K.rules.above s t && among K.rules.above s r.watched)) refl e }
        where
          go : (d : ℕ) (t : S) (u : V) → σ.faulty d ≡ false → (x : Bool) → (eqb b d && (level K.rules.above s t && among K.rules.above s r.watched)) ≡ x → cond x (Some v) (r.evidence d t) ≡ Some u → Seen K σ c d k t u
          go d t u f true i e =
              let e1 : b ≡ d = eq_of b d (and_l _ _ i) in
              let e2 : s ≡ t = level_eq K L s t (and_l _ _ (and_r (eqb b d) _ i)) in
              let e3 : v ≡ u = cc in
              subst (λ t. Seen K σ c d k t u) e2 (subst (λ u. Seen K σ c d k s u) e3 (seen_at d f e1))
          go d t u f false i e = g.evidence d t u f e

  heard_ok : (σ : State S V) (c k : ℕ) (r : Reading S V) (b : ℕ) (s : S) (v : V) → ReadOk K σ c k r → (σ.faulty b ≡ false → Seen K σ c b k s v) → ReadOk K σ c k (heard K.rules r b s v)
  heard_ok σ c k r b s v g l = noted_ok σ c k _ (by_cond (ReadOk K σ c k) (r.entered b) (raised K.rules.above r b s v) (rewatched K.rules (raised K.rules.above r b s v)) (λ e. ok) (λ e. rewatched_ok σ c k _ ok)) b s v l
    where
      ok : ReadOk K σ c k (raised K.rules.above r b s v)
      ok = raised_ok σ c k r g b s v l

  module _ (σ : State S V) (I : Safe K σ) (rest : List (Msg S V)) (al : All (Good K σ) rest) where
    pub safe_decided : (c : ℕ) (r : Reading S V) → ReadOk K σ c (σ.clients c).number r → Safe K (decided K σ c rest r (decide K.rules r r.watched))
    safe_decided c r g = go (decide K.rules r r.watched) refl
      where
        go : (o : Option (S × V)) → decide K.rules r r.watched ≡ o → Safe K (decided K σ c rest r o)
        go None e = safe_plain K L σ I rest al c (reading r) (λ h. absurd (t≢f h refl)) g
        go (Some p) e =
            let enough = decide_quorum r r.watched p e in
            safe_finished K L σ I rest al c p.0 (Some p.1) (backers K.rules.same r p.0 p.1) _ enough
            (λ b f j. (g.evidence b p.0 p.1 f (says_some _ _ j)).held)
            (λ v e.
            let e' : p.1 ≡ v = cc in
            let d = L.quorums.quorums_meet _ _ _ enough enough I.faulty_fail_prone in (
              subst (λ v. Genuine K σ.history p.0 v) e' (g.evidence d.0 p.0 p.1 d.4 (says_some _ _ d.2)).genuine,
              λ s₁ q₁ f.
                  let d' = L.quorums.quorums_meet _ q₁ _ enough (I.past.enough s₁ q₁ (prior_finish f)) I.faulty_fail_prone in
                  (g.evidence d'.0 p.0 p.1 d'.4 (says_some _ _ d'.2)).floor s₁ q₁ f d'.3,
              g.origin,
            ))
            (λ e. absurd (Some≢None (sym e) refl))
            (all_to (Good K _) K.rules.n (λ b. stop c b (σ.clients c).number) (λ i. number_at K L σ I rest al c _ _ (le_refl _)))

    pub safe_value : (c b : ℕ) (s : S) (v : V) → (σ.faulty b ≡ false → Seen K σ c b (σ.clients c).number s v) → (ph : Phase S V) → GoodPhase K σ c (σ.clients c).number ph → Safe K (on_value K σ c b s v rest ph)
    safe_value c b s v l idle g = safe_drop K L σ I rest al
    safe_value c b s v l (asking t u acks) g = safe_drop K L σ I rest al
    safe_value c b s v l (storing t u acks) g = safe_drop K L σ I rest al
    safe_value c b s v l (reading r) g = safe_decided c (heard K.rules r b s v) (heard_ok σ c (σ.clients c).number r b s v g l)
