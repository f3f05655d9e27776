-- A reading client takes a VALUE: it is done, or goes on.
use Rattle.std.proofs.Common.{◌≡◌, ℕ, ◌<◌, Bool, true, false, cond, not, ◌&&◌, ◌||◌, eqb, ◌⊎◌, List, [], ◌∷◌, ◌++◌, Some, None, Option, sym, refl, ap, ◌∙◌, subst, inl, inr, le_refl, arith}
use Rattle.reading.specs.Readings.{Reading, updated, level, among, newer, raised, noted, backers, leaders, rewatched, heard, decide}
use Rattle.protocol.specs.Settings.{Setting, Lawful}
use Rattle.protocol.specs.Clients.{Phase, idle, asking, storing, reading, Client, to_all}
use Rattle.protocol.specs.Runs.{In}
use Rattle.machine.proofs.Machine.{Msg, value, stop, Event, chose, finished, State, client_of, set_client, dropped, decided, on_value}
use Rattle.machine.proofs.Base.{zero≢one, t≢f, by_cond, eq_of, eqb_same, and_l, and_r, and_both, updated_elim, updated_at, All, all_to, in_left, Le, le_trans, lt_le, le_eq, level_eq, level_refl}
use Rattle.machine.proofs.Safe.{Genuine, Seen, Good, ReadOk, GoodPhase, Safe}
use Rattle.machine.proofs.Past.{old_chose, old_prior}
use Rattle.machine.proofs.SafeClient.{client_later}
use Rattle.machine.proofs.SafeRead.{raised_ok}
use Rattle.machine.proofs.Live.{Started, Coming, Backs, Chase, LiveRead, LivePhase, StopOk, Live, genuine_unique}
use Rattle.machine.proofs.LiveClient.{updated_true, ToClient, live_drop, live_client}
use Rattle.machine.proofs.LiveWatch.{Best, best, best_leads, leader_watched}

module _ {S V : Type 0} (K : Setting S V) (L : Lawful K) (σ : State S V) (A : Live K σ) (I : Safe K σ) (rest : List (Msg S V)) (al : All (Good K σ) rest) (st : All (StopOk K σ.clients) rest)
    (c₀ b₀ k₀ : ℕ) (s₀ : S) (v₀ : V) (keep : (l : Msg S V) → In l σ.queue → (l ≡ value c₀ b₀ k₀ s₀ v₀) ⊎ In l rest) where
  drop_value : ((y : Reading S V) → (σ.clients c₀).phase ≡ reading y → k₀ ≡ (σ.clients c₀).number → ⊥) → Live K (dropped σ rest)
  drop_value h = live_drop K L σ A I rest al st (value c₀ b₀ k₀ s₀ v₀) tt keep
      (λ c b v told t₀ e t l. absurd (zero≢one cc))
      (λ c b s v acks e l. zero≢one cc)
      (λ c b y e s v l.
      let a : c ≡ c₀ = cc in
      let d' : (σ.clients c).number ≡ k₀ = cc in
      h y (subst (λ c. (σ.clients c).phase ≡ reading y) a e) (sym d' ∙ ap (λ c. (σ.clients c).number) a))

  pub live_value_number : (k₀ ≡ (σ.clients c₀).number → ⊥) → Live K (dropped σ rest)
  live_value_number ne = drop_value (λ y e h. ne h)

  module _ (current : k₀ ≡ (σ.clients c₀).number) (seen : σ.faulty b₀ ≡ false → Seen K σ c₀ b₀ (σ.clients c₀).number s₀ v₀) (y : Reading S V) (g : LiveRead K σ c₀ (σ.clients c₀).number y) (ok : ReadOk K σ c₀ (σ.clients c₀).number y) where
    abbrev k : ℕ
    k = (σ.clients c₀).number

    abbrev y₁ : Reading S V
    y₁ = raised K.rules.above y b₀ s₀ v₀

    ok₁ : ReadOk K σ c₀ k y₁
    ok₁ = raised_ok K L σ c₀ k y ok b₀ s₀ v₀ seen

    latest_up : (b : ℕ) → y.entered b ≡ true → Le K (y.latest b) (y₁.latest b)
    latest_up b en = updated_elim (λ t. Le K (y.latest b) t) y.latest b₀ _ b
        (λ e. by_cond (λ t. Le K (y.latest b) t) (newer K.rules.above y b₀ s₀) s₀ (y.latest b₀)
        (λ f. subst (λ b. Le K (y.latest b) s₀) e (lt_le K L _ _ (was (y.entered b₀) f (subst (λ b. y.entered b ≡ true) (sym e) en))))
        (λ f. le_eq K L _ _ (ap y.latest (sym e))))
        (L.timestamps.irreflexive _)
      where
        was : (t : Bool) → (not t || K.rules.above s₀ (y.latest b₀)) ≡ true → t ≡ true → K.rules.above s₀ (y.latest b₀) ≡ true
        was true e f = e
        was false e f = absurd (t≢f f refl)

    latest_reach : Le K s₀ (y₁.latest b₀)
    latest_reach = subst (Le K s₀) (sym (updated_at y.latest b₀ _)) (by_cond (Le K s₀) (newer K.rules.above y b₀ s₀) s₀ (y.latest b₀) (λ f. L.timestamps.irreflexive _) (λ f. was (y.entered b₀) f))
      where
        was : (t : Bool) → (not t || K.rules.above s₀ (y.latest b₀)) ≡ false → Le K s₀ (y.latest b₀)
        was true e = e
        was false e = absurd (t≢f refl e)

    entered_here : (b : ℕ) → b₀ ≡ b → y₁.entered b ≡ true
    entered_here b e = subst (λ b. y₁.entered b ≡ true) e (updated_at y.entered b₀ true)

    module _ (x : Client S V) where
      abbrev τ : State S V
      τ = set_client σ c₀ rest x [] []

      keep' : (l : Msg S V) → In l σ.queue → (l ≡ value c₀ b₀ k s₀ v₀) ⊎ In l (rest ++ [])
      keep' l i = elim (keep l i) [ inl e ↦ inl (let a = current in cc) | inr j ↦ inr (in_left rest [] j) ]

      started₁ : (b : ℕ) → b < K.rules.n → σ.faulty b ≡ false → Started K τ c₀ k y₁ b
      started₁ b n f = elim (g.started b n f) [
        | inl p ↦ inl (
          p.0,
          (elim (keep' _ p.1) [ inl e ↦ absurd (zero≢one cc) | inr j ↦ j ]),
          updated_elim (λ t. t ≡ false) y.entered b₀ true b
              (λ e. absurd (let a = (seen (subst (λ b. σ.faulty b ≡ false) (sym e) f)).asked in let d : ((σ.servers b₀).listener c₀).number < k = subst (λ b. ((σ.servers b).listener c₀).number < k) (sym e) p.0 in omega arith)) p.2,
        )
        | inr p ↦ inr (
          p.0,
          p.1,
          elim p.2 [
            | inl en ↦ inl (updated_true y.entered b₀ b en)
            | inr (s, v, i) ↦ elim (keep' _ i) [ inl e ↦ inl (entered_here b cc) | inr j ↦ inr (s, v, j) ]
          ],
        )
      ]

      coming₁ : (b : ℕ) → b < K.rules.n → σ.faulty b ≡ false → ((σ.servers b).listener c₀).number ≡ k → ((σ.servers b).listener c₀).listening ≡ true →
          (c' k' : ℕ) (s : S) (v : V) → In (chose c' k' s v) σ.history → Le K ((σ.servers b).listener c₀).start s → Coming K τ c₀ k y₁ b c' k' s v
      coming₁ b n f h o c' k' s v i l = elim (g.coming b n f h o c' k' s v i l) [
        | inl p ↦ elim (keep' _ p) [ inl e ↦ absurd (zero≢one cc) | inr j ↦ inl j ]
        | inr (inl p) ↦ elim (keep' _ p) [
          | inl e ↦
              (let a : b₀ ≡ b = cc in
              let d : s₀ ≡ s = cc in
              inr (inr (entered_here b a, subst (λ b. Le K s (y₁.latest b)) a (subst (λ s. Le K s (y₁.latest b₀)) d latest_reach))))
          | inr j ↦ inr (inl j)
        ]
        | inr (inr p) ↦ inr (inr (updated_true y.entered b₀ b p.0, le_trans K L _ _ _ p.1 (latest_up b p.0)))
      ]

      -- evidence noted last
      agree : (s : S) (v : V) → Genuine K σ.history s v → (b : ℕ) → σ.faulty b ≡ false → b₀ ≡ b → s₀ ≡ s → v₀ ≡ v
      agree s v ge b f e h = genuine_unique K L σ.history σ.clients I.past s v₀ v (subst (λ s. Genuine K σ.history s v₀) h (seen (subst (λ b. σ.faulty b ≡ false) (sym e) f)).genuine) ge

      noted_keeps : (z : Reading S V) (b : ℕ) (s : S) (v : V) → (b₀ ≡ b → s₀ ≡ s → v₀ ≡ v) → z.evidence b s ≡ Some v → (noted K.rules.above z b₀ s₀ v₀).evidence b s ≡ Some v
      noted_keeps z b s v ag e = by_cond (λ o. o ≡ Some v) (eqb b₀ b && (level K.rules.above s₀ s && among K.rules.above s₀ z.watched)) (Some v₀) (z.evidence b s)
          (λ t. ap Some (ag (eq_of b₀ b (and_l _ _ t)) (level_eq K L s₀ s (and_l _ _ (and_r (eqb b₀ b) _ t))))) (λ t. e)

      noted_has : (z : Reading S V) → among K.rules.above s₀ z.watched ≡ true → (noted K.rules.above z b₀ s₀ v₀).evidence b₀ s₀ ≡ Some v₀
      noted_has z a = ap (λ t. cond t (Some v₀) (z.evidence b₀ s₀)) (and_both _ _ (eqb_same b₀) (and_both _ _ (level_refl K L s₀) a))

      listens : (b : ℕ) → b < K.rules.n → σ.faulty b ≡ false → y₁.entered b ≡ true → (((σ.servers b).listener c₀).number ≡ k) × (((σ.servers b).listener c₀).listening ≡ true)
      listens b n f i = elim (started₁ b n f) [ inl p ↦ absurd (t≢f i p.2) | inr p ↦ (p.0, p.1) ]

      -- the server had entered
      chase_old : y.entered b₀ ≡ true → ((b : ℕ) → b < K.rules.n → σ.faulty b ≡ false → y₁.entered b ≡ false) ⊎ Chase K τ c₀ k (noted K.rules.above y₁ b₀ s₀ v₀)
      chase_old en = elim g.chase [
        | inl p ↦ inl (λ b n f. updated_elim (λ t. t ≡ false) y.entered b₀ true b (λ e. absurd (t≢f (subst (λ b. y.entered b ≡ true) e en) (p b n f))) (p b n f))
        | inr p ↦ inr (record {
          s = p.s;
          v = p.v;
          watched = p.watched;
          genuine = p.genuine;
          from = λ b n f i. p.from b n f (was b i);
          backs = λ b n f i. elim (p.backs b n f (was b i)) [
            | inl e ↦ inl (noted_keeps y₁ b p.s p.v (agree p.s p.v p.genuine b f) e)
            | inr (inl (c', k', j)) ↦ elim (keep' _ j) [ inl e ↦ absurd (zero≢one cc) | inr j ↦ inr (inl (c', k', j)) ]
            | inr (inr j) ↦ elim (keep' _ j) [
              | inl e ↦
                  (let a : b₀ ≡ b = cc in
                  let d : s₀ ≡ p.s = cc in
                  let d' : v₀ ≡ p.v = cc in
                  inl (subst (λ b. (noted K.rules.above y₁ b₀ s₀ v₀).evidence b p.s ≡ Some p.v) a (subst (λ s. (noted K.rules.above y₁ b₀ s₀ v₀).evidence b₀ s ≡ Some p.v) d
                  (noted_has y₁ (subst (λ s. among K.rules.above s y.watched ≡ true) (sym d) p.watched) ∙ ap Some d'))))
              | inr j ↦ inr (inr j)
            ]
          ];
        })
      ]
        where
          was : (b : ℕ) → y₁.entered b ≡ true → y.entered b ≡ true
          was b = updated_elim (λ t. t ≡ true → y.entered b ≡ true) y.entered b₀ true b (λ e _. subst (λ b. y.entered b ≡ true) e en) (λ h. h)

      -- the server enters
      chase_new : ((b : ℕ) → b < K.rules.n → σ.faulty b ≡ false → y₁.entered b ≡ false) ⊎ Chase K τ c₀ k (noted K.rules.above (rewatched K.rules y₁) b₀ s₀ v₀)
      chase_new = elim (best K L σ.faulty y₁ K.rules.n) [ inl p ↦ inl p | inr B ↦ inr (found B) ]
        where
          found : Best K σ.faulty y₁ K.rules.n → Chase K τ c₀ k (noted K.rules.above (rewatched K.rules y₁) b₀ s₀ v₀)
          found B = record {
            s = t;
            v = u;
            watched = watched;
            genuine = genuine;
            from = λ b n f i. le_trans K L _ _ _ ((ok₁.latest b f i).from (listens b n f i).0) (B.most b n f i).0;
            backs = λ b n f i. backs b n f i genuine;
          }
            where
              t : S
              t = y₁.latest B.server

              u : V
              u = y₁.latest_value B.server

              watched : among K.rules.above t (leaders K.rules y₁ K.rules.n) ≡ true
              watched = leader_watched K L y₁ K.rules.n B.server B.lt (best_leads K L σ.faulty y₁ I.faulty_fail_prone B)

              genuine : Genuine K σ.history t u
              genuine = (ok₁.latest B.server B.correct B.entered).genuine

              -- a server whose latest is t
              mine : (b : ℕ) → σ.faulty b ≡ false → y₁.entered b ≡ true → y₁.latest b ≡ t → (noted K.rules.above (rewatched K.rules y₁) b₀ s₀ v₀).evidence b t ≡ Some u
              mine b f i e = noted_keeps (rewatched K.rules y₁) b t u (agree t u genuine b f)
                  (ap (λ z. cond z (cond (y₁.entered b && level K.rules.above (y₁.latest b) t) (Some (y₁.latest_value b)) (y₁.evidence b t)) None) watched
                  ∙ ap (λ z. cond z (Some (y₁.latest_value b)) (y₁.evidence b t)) (and_both _ _ i (subst (λ a. level K.rules.above a t ≡ true) (sym e) (level_refl K L t)))
                  ∙ ap Some (genuine_unique K L σ.history σ.clients I.past t (y₁.latest_value b) u (subst (λ a. Genuine K σ.history a (y₁.latest_value b)) e (ok₁.latest b f i).genuine) genuine))

              backs : (b : ℕ) → b < K.rules.n → σ.faulty b ≡ false → y₁.entered b ≡ true → Genuine K σ.history t u → Backs K τ c₀ k (noted K.rules.above (rewatched K.rules y₁) b₀ s₀ v₀) b t u
              backs b n f i (inl e) = inl (mine b f i (L.timestamps.total _ _ (B.most b n f i).0 (subst (λ a. Le K a (y₁.latest b)) (sym e.0) (L.timestamps.lowest_below _))))
              backs b n f i (inr (c', k', j)) = elim (coming₁ b n f (listens b n f i).0 (listens b n f i).1 c' k' t u j (le_trans K L _ _ _ ((ok₁.latest b f i).from (listens b n f i).0) (B.most b n f i).0)) [
                | inl p ↦ inr (inl (c', k', p))
                | inr (inl p) ↦ inr (inr p)
                | inr (inr p) ↦ inl (mine b f i (L.timestamps.total _ _ (B.most b n f i).0 p.1))
              ]

      live_heard : (t : Bool) → y.entered b₀ ≡ t → decide K.rules (noted K.rules.above (cond t y₁ (rewatched K.rules y₁)) b₀ s₀ v₀) (noted K.rules.above (cond t y₁ (rewatched K.rules y₁)) b₀ s₀ v₀).watched ≡ None →
          LiveRead K τ c₀ k (noted K.rules.above (cond t y₁ (rewatched K.rules y₁)) b₀ s₀ v₀)
      live_heard true e d' = record { undecided = d'; started = started₁; coming = coming₁; chase = chase_old e }
      live_heard false e d' = record { undecided = d'; started = started₁; coming = coming₁; chase = chase_new }

    pub live_decided : (σ.clients c₀).phase ≡ reading y → Live K (decided K σ c₀ rest (heard K.rules y b₀ s₀ v₀) (decide K.rules (heard K.rules y b₀ s₀ v₀) (heard K.rules y b₀ s₀ v₀).watched))
    live_decided ph = go (decide K.rules (heard K.rules y b₀ s₀ v₀) (heard K.rules y b₀ s₀ v₀).watched) refl
      where
        Lost : Msg S V → Type 0
        Lost l = l ≡ value c₀ b₀ k₀ s₀ v₀

        tc : (l : Msg S V) → Lost l → ToClient l
        tc l e = subst ToClient (sym e) tt

        toc : (l : Msg S V) → Lost l → client_of l ≡ c₀
        toc l e = ap client_of e

        go : (o : Option (S × V)) → decide K.rules (heard K.rules y b₀ s₀ v₀) (heard K.rules y b₀ s₀ v₀).watched ≡ o → Live K (decided K σ c₀ rest (heard K.rules y b₀ s₀ v₀) o)
        go None e = live_client K L σ A I rest al st Lost c₀ x [] [] tc toc keep (client_later K L σ I rest al c₀ x [] [] (le_refl _) (λ u k s q h p. p)) (λ b n u k s v i. inl i)
            (λ k n so z e. so y ph) tt (live_heard x (y.entered b₀) refl e)
          where
            x : Client S V
            x = record { number = (σ.clients c₀).number; last = (σ.clients c₀).last; phase = reading (heard K.rules y b₀ s₀ v₀) }
        go (Some p) e = live_client K L σ A I rest al st Lost c₀ x ms es tc toc keep (client_later K L σ I rest al c₀ x ms es (le_refl _) (λ u k s q h p. old_prior _ tt p)) (λ b n u k s v i. inl (old_chose _ tt i))
            (λ k n so z e. absurd (zero≢one cc))
            (all_to (StopOk K (updated σ.clients c₀ x)) K.rules.n (λ b. stop c₀ b (σ.clients c₀).number) (λ i z q. absurd (done z (sym (ap (λ (x : Client S V). x.phase) (updated_at σ.clients c₀ x)) ∙ q)))) tt
          where
            x : Client S V
            x = record { number = (σ.clients c₀).number; last = (σ.clients c₀).last; phase = idle }

            ms : List (Msg S V)
            ms = to_all K.rules.n (λ b. stop c₀ b (σ.clients c₀).number)

            es : List (Event S V)
            es = finished c₀ (σ.clients c₀).number p.0 (Some p.1) (backers K.rules.same (heard K.rules y b₀ s₀ v₀) p.0 p.1) ∷ []

            done : (z : Reading S V) → idle ≡ reading z → ⊥
            done z q = zero≢one cc

  pub live_value : k₀ ≡ (σ.clients c₀).number → (σ.faulty b₀ ≡ false → Seen K σ c₀ b₀ (σ.clients c₀).number s₀ v₀) → (ph : Phase S V) → (σ.clients c₀).phase ≡ ph →
      LivePhase K σ c₀ (σ.clients c₀).number ph → GoodPhase K σ c₀ (σ.clients c₀).number ph → Live K (on_value K σ c₀ b₀ s₀ v₀ rest ph)
  live_value h seen idle e g ok = drop_value (λ y e' h'. zero≢one cc)
  live_value h seen (asking v told t) e g ok = drop_value (λ y e' h'. zero≢one cc)
  live_value h seen (storing t v acks) e g ok = drop_value (λ y e' h'. zero≢one cc)
  live_value h seen (reading y) e g ok = live_decided h seen y g ok e
