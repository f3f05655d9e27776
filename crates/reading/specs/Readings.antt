-- A client that reads: what a VALUE makes of what it knows, and when it is done.
use Rattle.std.specs.Prelude.{ℕ, zero, suc, Bool, true, false, cond, not, ◌&&◌, ◌||◌, List, [], ◌∷◌, ◌++◌, Some, None, Option, ◌==◌, nat_lt}
use Rattle.quorums.specs.declared.QuorumSystem.{Ghosts as QuorumGhosts}
use Rattle.timestamps.specs.declared.Timestamp.{Ghosts as TimestampGhosts}
use Rattle.values.specs.declared.Value.{Ghosts as ValueGhosts}

-- what a reading client asks of the kinds: the servers, the quorums, the fail-prone sets, the order of timestamps, the equality of values
pub record Rules (S V : Type 0) : Type 0 where
  pub n : ℕ
  pub quorum : (ℕ → Bool) → Bool
  pub fail_prone : (ℕ → Bool) → Bool
  pub above : S → S → Bool
  pub same : V → V → Bool

-- the rules of a quorum system, an order of timestamps and an equality of values
abbrev pub rules : {S V : Type 0} → ℕ → ((ℕ → Bool) → Bool) → ((ℕ → Bool) → Bool) → (S → S → Bool) → (V → V → Bool) → Rules S V
rules n quorum fail_prone above same = record { n = n; quorum = quorum; fail_prone = fail_prone; above = above; same = same }

-- the rules of the kinds of a register and of its quorum system, for n servers
abbrev pub rules_for : {Q S V : Type 0} → QuorumGhosts Q → TimestampGhosts S → ValueGhosts V → ℕ → Q → Rules S V
rules_for Q S V n system = rules n (Q.quorum system) (Q.fail_prone system) S.above V.same

-- for all servers of the quorum system
abbrev pub rules_of : {Q S V : Type 0} → QuorumGhosts Q → TimestampGhosts S → ValueGhosts V → Q → Rules S V
rules_of Q S V system = rules_for Q S V (Q.size system) system

-- what a reading client knows: which servers have entered, each one's latest pair, the watched timestamps, and each server's evidence for a timestamp
pub record Reading (S V : Type 0) : Type 0 where
  pub entered : ℕ → Bool
  pub latest : ℕ → S
  pub latest_value : ℕ → V
  pub watched : List S
  pub evidence : ℕ → S → Option V

-- when a read begins, nothing is known
abbrev pub unread : {S V : Type 0} → S → V → Reading S V
unread lowest initial = record { entered = λ b. false; latest = λ b. lowest; latest_value = λ b. initial; watched = []; evidence = λ b t. None }

-- a function that is x at i, and elsewhere as it was
abbrev pub updated : {A : Type 0} → (ℕ → A) → ℕ → A → ℕ → A
updated f i x j = cond (i == j) x (f j)

-- neither of two timestamps is above the other
abbrev pub level : {S : Type 0} → (S → S → Bool) → S → S → Bool
level above t u = not (above t u) && not (above u t)

-- the timestamp is one of the list
abbrev pub among : {S : Type 0} → (S → S → Bool) → S → List S → Bool
among above t [] = false
among above t (u ∷ us) = level above t u || among above t us

module _ {S V : Type 0} (above : S → S → Bool) where
  -- server c, which has entered, is ahead of server b: its latest timestamp is above b's, or equal with a lower server number
  abbrev pub ahead : Reading S V → ℕ → ℕ → Bool
  ahead r b c = r.entered c && (above (r.latest c) (r.latest b) || (not (above (r.latest b) (r.latest c)) && nat_lt c b))

  -- a timestamp of server b would be its latest: it is the first, or above the one that was
  abbrev pub newer : Reading S V → ℕ → S → Bool
  newer r b t = not (r.entered b) || above t (r.latest b)

  -- first, the latest of server b is brought up to date; of equals the earlier stays
  abbrev pub raised : Reading S V → ℕ → S → V → Reading S V
  raised r b t v = record {
    entered = updated r.entered b true;
    latest = updated r.latest b (cond (newer r b t) t (r.latest b));
    latest_value = updated r.latest_value b (cond (newer r b t) v (r.latest_value b));
    watched = r.watched;
    evidence = r.evidence;
  }

  -- third, a value with a watched timestamp becomes server b's evidence there
  abbrev pub noted : Reading S V → ℕ → S → V → Reading S V
  noted r b t v = record {
    entered = r.entered;
    latest = r.latest;
    latest_value = r.latest_value;
    watched = r.watched;
    evidence = λ c u. cond (b == c && (level above t u && among above t r.watched)) (Some v) (r.evidence c u);
  }

-- the evidence is this value
abbrev pub says : {V : Type 0} → (V → V → Bool) → Option V → V → Bool
says same None v = false
says same (Some u) v = same u v

-- the servers whose evidence for a timestamp is this value
abbrev pub backers : {S V : Type 0} → (V → V → Bool) → Reading S V → S → V → ℕ → Bool
backers same r t v b = says same (r.evidence b t) v

-- the value, if there is one and the test holds of it, else the rest
abbrev pub value_of : {V : Type 0} → (V → Bool) → Option V → Option V → Option V
value_of test None rest = rest
value_of test (Some v) rest = cond (test v) (Some v) rest

-- of a pair and another, the one with the higher timestamp
abbrev pub better : {S V : Type 0} → (S → S → Bool) → S → Option V → Option (S × V) → Option (S × V)
better above t None rest = rest
better above t (Some v) None = Some (t, v)
better above t (Some v) (Some p) = cond (above p.0 t) (Some p) (Some (t, v))

module _ {S V : Type 0} (K : Rules S V) where
  -- a server leads when it has entered and the servers ahead of it are fail-prone
  abbrev pub leads : Reading S V → ℕ → Bool
  leads r b = r.entered b && K.fail_prone (ahead K.above r b)

  -- the latest timestamps of the leading servers below a bound, in server order
  abbrev pub leaders : Reading S V → ℕ → List S
  leaders r zero = []
  leaders r (suc b) = leaders r b ++ cond (leads r b) (r.latest b ∷ []) []

  -- second, where a server has entered: the leaders' latest timestamps are watched, evidence for others is dropped, and each entered server with a watched latest has its latest value as evidence there
  abbrev pub rewatched : Reading S V → Reading S V
  rewatched r = record {
    entered = r.entered;
    latest = r.latest;
    latest_value = r.latest_value;
    watched = leaders r K.n;
    evidence = λ b t.
        cond (among K.above t (leaders r K.n))
        (cond (r.entered b && level K.above (r.latest b) t) (Some (r.latest_value b)) (r.evidence b t)) None;
  }

  -- a VALUE of server b: the three steps in their order
  abbrev pub heard : Reading S V → ℕ → S → V → Reading S V
  heard r b t v = noted K.above (cond (r.entered b) (raised K.above r b t v) (rewatched (raised K.above r b t v))) b t v

  -- the value that a quorum has as its evidence for a timestamp, looked for among the servers below a bound
  abbrev pub backed : Reading S V → S → ℕ → Option V
  backed r t zero = None
  backed r t (suc b) = value_of (λ v. K.quorum (backers K.same r t v)) (r.evidence b t) (backed r t b)

  -- fourth, the read is done with the highest of these timestamps for which a quorum has the same evidence
  abbrev pub decide : Reading S V → List S → Option (S × V)
  decide r [] = None
  decide r (t ∷ ts) = better K.above t (backed r t K.n) (decide r ts)
