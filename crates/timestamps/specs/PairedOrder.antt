-- Paired timestamps: ordered by count, then by client, and owned by their client.
use Rattle.std.specs.Prelude.{◌≡◌, ℕ, suc, ◌+◌, ◌^◌, ◌<◌, ◌≤◌, Bool, true, false, cond, ◌&&◌, ◌||◌, T, Some, None, Option, ◌==◌, nat_lt}
use Rattle.std.proofs.Common.{leb→le, lit<}
use Rattle.timestamps.specs.declared.paired.Paired.{Paired}
use Rattle.timestamps.specs.Laws.{higher}

-- whether the first has the higher count, or an equal count and the higher client
abbrev pub paired_above : Paired → Paired → Bool
paired_above s t = nat_lt t.count s.count || (t.count == s.count && nat_lt t.client s.client)

-- the owner is the client
abbrev pub paired_owner : Paired → ℕ
paired_owner s = s.client

-- the lowest has count 0 and client 0
abbrev pub paired_lowest : Paired
paired_lowest = record { count = 0; client = 0; fits = lit< tt; known = lit< tt }

-- the timestamp of a count and a client that two tests found to fit
abbrev pub paired_when : (count client : ℕ) (low few : Bool) → (T low → count < 2 ^ 32) → (T few → client < 64) → Option Paired
paired_when count client true true fit know = Some (record { count = count; client = client; fits = fit tt; known = know tt })
paired_when count client true false fit know = None
paired_when count client false few fit know = None

-- the timestamp of a count and a client, if the count is below 2 ^ 32 and the client below 64
abbrev pub paired : ℕ → ℕ → Option Paired
paired count client = paired_when count client (nat_lt count (2 ^ 32)) (nat_lt client 64) (leb→le (suc count) (2 ^ 32)) (leb→le (suc client) 64)

-- a count and a client as a timestamp: none exactly when the client is 64 or more
abbrev pub Made : ℕ → ℕ → Option Paired → Type 0
Made count client (Some s) = (s.count ≡ count) × (s.client ≡ client)
Made count client None = 64 ≤ client

-- the client's lowest count above a timestamp: the same count where the client is higher, else the next
abbrev pub next_count : ℕ → Paired → ℕ
next_count client top = cond (nat_lt top.client client) top.count (top.count + 1)

-- the client's lowest timestamp above both a and b
abbrev pub paired_successor : ℕ → Paired → Paired → Option Paired
paired_successor client a b = paired (next_count client (higher paired_above a b)) client
