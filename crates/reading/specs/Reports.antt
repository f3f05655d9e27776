-- The reports of one reading client in memory, and what they show: a row of n + 1 entries for each of the n servers.
-- Entries 0 .. n-1 of a row are the slots, and entry n is the server's latest pair. Slot j is watched where the entry of server j in it reports a pair.
use Rattle.std.specs.Prelude.{◌≡◌, ℕ, zero, suc, ◌+◌, ◌*◌, Bool, false, cond, ◌&&◌, List, [], ◌∷◌, ◌++◌, Some, None, Option, is_some, ◌==◌, nat_le, nat_lt, slice_index_or}
use Rattle.std.specs.Option.{option_map, unwrap_or}
use Rattle.timestamps.specs.declared.Timestamp.{Ghosts as TimestampGhosts}
use Rattle.values.specs.declared.Value.{Ghosts as ValueGhosts}
use Rattle.reading.specs.declared.reports.Reports.{Reports}
use Rattle.reading.specs.Readings.{Reading, level}

-- an entry: a pair, or nothing
abbrev pub Report : Type 0 → Type 0 → Type 0
Report S V = Option (S × V)

-- the entries by server and place
abbrev pub Grid : Type 0 → Type 0 → Type 0
Grid S V = ℕ → ℕ → Report S V

-- entry k of server b; past the end of the memory nothing is reported
abbrev pub cell : {R : Type 0} → ℕ → List (Option R) → ℕ → ℕ → Option R
cell n p b k = slice_index_or p (b * (n + 1) + k) None

-- the timestamp that an entry reports
abbrev pub timestamp_of : {S V : Type 0} → Report S V → Option S
timestamp_of r = option_map (λ p. p.0) r

-- the value that it reports
abbrev pub content : {S V : Type 0} → Report S V → Option V
content r = option_map (λ p. p.1) r

-- what is there, as a list
abbrev pub listed : {A : Type 0} → Option A → List A
listed None = []
listed (Some x) = x ∷ []

-- the timestamps of the watched slots below a bound, in slot order
abbrev pub slots : {S V : Type 0} → Grid S V → ℕ → List S
slots g zero = []
slots g (suc j) = slots g j ++ listed (timestamp_of (g j j))

-- a timestamp is there, and it is equal to this one
abbrev pub equals : {S : Type 0} → (S → S → Bool) → S → Option S → Bool
equals above t None = false
equals above t (Some u) = level above t u

-- slot j is watched for the timestamp
abbrev pub watches : {S V : Type 0} → (S → S → Bool) → Grid S V → S → ℕ → Bool
watches above g t j = equals above t (timestamp_of (g j j))

-- the evidence of server b for the timestamp: its entry in the last slot below a bound that is watched for it
abbrev pub kept : {S V : Type 0} → (S → S → Bool) → Grid S V → ℕ → S → ℕ → Option V
kept above g b t zero = None
kept above g b t (suc j) = cond (watches above g t j) (content (g b j)) (kept above g b t j)

-- the latest report of server b; of servers from n on, there is none
abbrev pub late : {S V : Type 0} → ℕ → Grid S V → ℕ → Report S V
late n g b = cond (nat_lt b n) (g b n) None

-- what the entries show; the latest pair of a server that has reported nothing is d
abbrev pub shown : {S V : Type 0} → (S → S → Bool) → S × V → ℕ → Grid S V → Reading S V
shown above d n g = record {
  entered = λ b. is_some (late n g b);
  latest = λ b. (unwrap_or (late n g b) d).0;
  latest_value = λ b. (unwrap_or (late n g b) d).1;
  watched = slots g n;
  evidence = λ b t. cond (nat_lt b n) (kept above g b t n) None;
}

-- what the memory shows
abbrev pub view : {S V : Type 0} → (S → S → Bool) → S × V → ℕ → List (Report S V) → Reading S V
view above d n p = shown above d n (cell n p)

-- what the client knows by its reports
abbrev pub known : {S V : Type 0} → TimestampGhosts S → ValueGhosts V → Reports S V → Reading S V
known S V r = view S.above (S.lowest, V.initial_value) r.n r.entries.now

-- the reports are still of as many servers, in the same lent memory
pub record Kept {S V : Type 0} (r q : Reports S V) : Type 0 where
  pub servers : q.n ≡ r.n
  pub memory : q.entries.ghost_name ≡ r.entries.ghost_name

-- entry k of server b is written
abbrev pub put_at : {R : Type 0} → (ℕ → ℕ → R) → ℕ → ℕ → R → ℕ → ℕ → R
put_at g b k x c j = cond (b == c && k == j) x (g c j)

-- the pair is written as server b's evidence into each slot below i that is watched for its timestamp
abbrev pub note_to : {S V : Type 0} → (S → S → Bool) → ℕ → Grid S V → ℕ → S → V → Grid S V
note_to above i g b t v c k = cond (b == c && (nat_lt k i && watches above g t k)) (Some (t, v)) (g c k)

-- what server c has for a timestamp: its latest value, or its evidence
abbrev pub has : {S V : Type 0} → (S → S → Bool) → Reading S V → ℕ → S → Option V
has above r c t = cond (r.entered c && level above (r.latest c) t) (Some (r.latest_value c)) (r.evidence c t)

-- the entry of what server c has for the latest timestamp of server j
abbrev pub fresh : {S V : Type 0} → (S → S → Bool) → Reading S V → ℕ → ℕ → Report S V
fresh above r c j = option_map (λ v. (r.latest j, v)) (has above r c (r.latest j))

-- the entry of server c in slot j after a server has entered
abbrev pub anew : {S V : Type 0} → (S → S → Bool) → (ℕ → Bool) → Reading S V → ℕ → ℕ → Report S V
anew above leading r c j = cond (leading j) (fresh above r c j) None

-- the slots from the i-th on, counted row by row, are those of f
abbrev pub renew_from : {R : Type 0} → (ℕ → ℕ → R) → ℕ → ℕ → (ℕ → ℕ → R) → ℕ → ℕ → R
renew_from f n i g x k = cond (nat_lt k n && nat_le i (x * n + k)) (f x k) (g x k)
