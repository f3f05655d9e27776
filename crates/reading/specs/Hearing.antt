-- What a call promises that hears a VALUE of a server.
use Rattle.std.specs.Prelude.{◌≡◌, ℕ, ◌+◌, ◌*◌, Bool, true, false, ◌&&◌, List, length, drop, None, Option, nat_le, nat_lt}
use Rattle.reading.specs.Readings.{Reading, Rules, heard, decide}
use Rattle.reading.specs.Reports.{Report, view}

-- the memory has room for n servers, and the server is one of them
abbrev pub enough_memory : {R : Type 0} → ℕ → List R → ℕ → Bool
enough_memory n p b = nat_le (n * (n + 1)) (length p) && nat_lt b n

-- what the client knows after a VALUE of server b
abbrev pub after_value : {S V : Type 0} → Rules S V → S × V → List (Report S V) → ℕ → S → V → Reading S V
after_value K d p b t v = heard K (view K.above d K.n p) b t v

-- what the client decides then
abbrev pub decided : {S V : Type 0} → Rules S V → S × V → List (Report S V) → ℕ → S → V → Option (S × V)
decided K d p b t v = decide K (after_value K d p b t v) (after_value K d p b t v).watched

-- memory p becomes q: it shows what is known after the VALUE, and the entries past the client's reports stay; the answer r is the decision
pub record Heard {S V : Type 0} (K : Rules S V) (d : S × V) (p : List (Report S V)) (b : ℕ) (t : S) (v : V) (r : Option (S × V)) (q : List (Report S V)) : Type 0 where
  pub after : view K.above d K.n q ≡ after_value K d p b t v
  pub answer : r ≡ decided K d p b t v
  pub rest : drop (K.n * (K.n + 1)) q ≡ drop (K.n * (K.n + 1)) p

-- nothing is decided, and the memory stays
pub record Unheard {S V : Type 0} (p : List (Report S V)) (r : Option (S × V)) (q : List (Report S V)) : Type 0 where
  pub answer : r ≡ None
  pub memory : q ≡ p

-- the VALUE is heard where there is enough memory for it, and else it is not
pub record Hearing {S V : Type 0} (K : Rules S V) (d : S × V) (p : List (Report S V)) (b : ℕ) (t : S) (v : V) (r : Option (S × V)) (q : List (Report S V)) : Type 0 where
  pub enough : enough_memory K.n p b ≡ true → Heard K d p b t v r q
  pub short : enough_memory K.n p b ≡ false → Unheard p r q
