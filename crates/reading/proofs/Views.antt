-- What memory shows after it is written.
use Rattle.std.proofs.Common.{◌≡◌, ℕ, zero, suc, ◌<◌, ◌≤◌, Bool, true, cond, eqb, ltb, ◌++◌, None, sym, refl, ap, ◌∙◌, ap₂, arith}
use Rattle.std.proofs.lemmas.Bool.Decides.{nat_tests}
use Rattle.std.proofs.lemmas.Bool.{cond-true}
use Rattle.std.specs.Prelude.{is_some, Some}
use Rattle.std.specs.Option.{unwrap_or}
use Rattle.reading.specs.Readings.{Reading, newer, raised}
use Rattle.reading.specs.Reports.{Report, Grid, timestamp_of, content, listed, slots, equals, watches, kept, late, shown, put_at}

-- readings with the same parts are the same
pub same_reading : {S V : Type 0} (r q : Reading S V) → ((b : ℕ) → r.entered b ≡ q.entered b) → ((b : ℕ) → r.latest b ≡ q.latest b)
    → ((b : ℕ) → r.latest_value b ≡ q.latest_value b) → r.watched ≡ q.watched → ((b : ℕ) (s : S) → r.evidence b s ≡ q.evidence b s) → r ≡ q
same_reading r q e s v w x = λ i. record { entered = λ b. e b i; latest = λ b. s b i; latest_value = λ b. v b i; watched = w i; evidence = λ b t. x b t i }

-- what agrees below n agrees
pub guard : {A : Type 0} (b n : ℕ) (x y z : A) → (b < n → x ≡ y) → cond (ltb b n) x z ≡ cond (ltb b n) y z
guard b n x y z h = grind (arith, nat_tests, h)

-- from n on it is the default
pub gone : {A : Type 0} (b n : ℕ) (x z : A) → n ≤ b → cond (ltb b n) x z ≡ z
gone b n x z l = grind (arith, nat_tests)

-- memory that is the same in range shows the same
pub slots_same : {S V : Type 0} (g h : Grid S V) (n : ℕ) → ((j : ℕ) → j < n → timestamp_of (g j j) ≡ timestamp_of (h j j)) → slots g n ≡ slots h n
slots_same g h zero e = refl
slots_same g h (suc n) e = ap₂ ◌++◌ (slots_same g h n (λ j l. e j (omega arith))) (ap listed (e n (omega arith)))

pub kept_same : {S V : Type 0} (above : S → S → Bool) (g h : Grid S V) (b : ℕ) (s : S) (n : ℕ) → ((j : ℕ) → j < n → watches above g s j ≡ watches above h s j)
    → ((j : ℕ) → j < n → content (g b j) ≡ content (h b j)) → kept above g b s n ≡ kept above h b s n
kept_same above g h b s zero e o = refl
kept_same above g h b s (suc n) e o =
    ap (λ t. cond t (content (g b n)) (kept above g b s n)) (e n (omega arith))
    ∙ ap₂ (λ x y. cond (watches above h s n) x y) (o n (omega arith)) (kept_same above g h b s n (λ j l. e j (omega arith)) (λ j l. o j (omega arith)))

pub shown_same : {S V : Type 0} (above : S → S → Bool) (d : S × V) (n : ℕ) (g h : Grid S V) → ((c k : ℕ) → c < n → k ≤ n → g c k ≡ h c k)
    → shown above d n g ≡ shown above d n h
shown_same above d n g h e =
    let last : (b : ℕ) → late n g b ≡ late n h b = λ b. guard b n (g b n) (h b n) None (λ l. e b n l (omega arith)) in
    same_reading (shown above d n g) (shown above d n h)
    (λ b. ap is_some (last b)) (λ b. ap (λ r. (unwrap_or r d).0) (last b)) (λ b. ap (λ r. (unwrap_or r d).1) (last b))
    (slots_same g h n (λ j l. ap timestamp_of (e j j l (omega arith))))
    (λ b s. guard b n (kept above g b s n) (kept above h b s n) None (λ l.
    kept_same above g h b s n (λ j m. ap (λ r. equals above s (timestamp_of r)) (e j j m (omega arith))) (λ j m. ap content (e b j l (omega arith)))))

-- ---- a server's latest pair

module _ {S V : Type 0} (above : S → S → Bool) (d : S × V) (n : ℕ) (g : Grid S V) (b : ℕ) (hb : b < n) where
  late_put : {A : Type 0} (F : Report S V → A) (x : Report S V) (c : ℕ) → F (late n (put_at g b n x) c) ≡ cond (eqb b c) (F x) (F (late n g c))
  late_put F x c = grind (arith, nat_tests)

  put_other : (x : Report S V) (c j : ℕ) → j < n → put_at g b n x c j ≡ g c j
  put_other x c j l = grind (arith, nat_tests)

  pub raise_yes : (s : S) (v : V) → newer above (shown above d n g) b s ≡ true → shown above d n (put_at g b n (Some (s, v))) ≡ raised above (shown above d n g) b s v
  raise_yes s v new =
      let x : Report S V = Some (s, v) in
      let h = put_at g b n x in
      let r = shown above d n g in
      same_reading (shown above d n h) (raised above r b s v)
      (λ c. late_put is_some x c)
      (λ c. late_put (λ y. (unwrap_or y d).0) x c ∙ ap (λ t. cond (eqb b c) t (r.latest c)) (sym (cond-true (newer above r b s) s (r.latest b) new)))
      (λ c. late_put (λ y. (unwrap_or y d).1) x c ∙ ap (λ u. cond (eqb b c) u (r.latest_value c)) (sym (cond-true (newer above r b s) v (r.latest_value b) new)))
      (slots_same h g n (λ j l. ap timestamp_of (put_other x j j l)))
      (λ c t. guard c n (kept above h c t n) (kept above g c t n) None (λ l.
      kept_same above h g c t n (λ j m. ap (λ y. equals above t (timestamp_of y)) (put_other x j j m)) (λ j m. ap content (put_other x c j m))))
