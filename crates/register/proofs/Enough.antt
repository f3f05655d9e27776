-- What it says that a register's memory is enough. Assumes nothing.
use Rattle.std.proofs.Common.{◌≡◌, ℕ, ◌+◌, ◌≤◌, true, length, ltb, leb, refl, ap, ◌∙◌, arith}
use Rattle.std.proofs.lemmas.Bool.{lt-ltb, and_from, le-leb}
use Rattle.network.specs.Queues.{Room}
use Rattle.protocol.specs.Settings.{Setting}
use Rattle.delivery.specs.Sizes.{enough_for}
use Rattle.delivery.specs.Memory.{Lent, sizes_of, enough}
use Rattle.delivery.proofs.Limits.{Limits, limits, other_length}
use Rattle.register.specs.declared.record.Register.{Register}
use Rattle.register.specs.Calling.{network_of}

module _ {S V : Type 0} (K : Setting S V) (len : ℕ) (x : Lent S V) (much : enough K len x ≡ true) where
  -- the limits of a memory that is enough
  pub parts : Limits K.rules.n K.client_count K.capacity len (sizes_of x)
  parts = limits K.rules.n K.client_count K.capacity len (sizes_of x) much

  -- memory of the same sizes with a queue within the capacity
  pub still_enough : (len' : ℕ) (x' : Lent S V) → len' ≤ K.capacity → sizes_of x' ≡ sizes_of x → enough K len' x' ≡ true
  still_enough len' x' fits same =
      ap (enough_for K.rules.n K.client_count K.capacity len') same
      ∙ other_length K.rules.n K.client_count K.capacity len len' (sizes_of x) fits much

-- there is room for so many messages more
pub room_left : {Q S V : Type 0} (K : Setting S V) (g : Register Q) (x : Lent S V) → enough K g.len x ≡ true → g.capacity ≡ K.capacity
    → (more : ℕ) → g.len + more ≤ K.capacity → Room (network_of g) (length x.messages) more
room_left K g x much same more few =
    let p = parts K g.len x much in
    record {
      sizes =
          and_from (ltb 0 g.capacity) _ (lt-ltb 0 g.capacity (omega (arith, p.some_capacity, same)))
          (and_from (leb g.capacity 4096) _ (le-leb g.capacity 4096 (omega (arith, p.small_capacity, same))) (le-leb g.capacity (length x.messages) (omega (arith, p.memory, same))));
      none_lifted = refl;
      left = omega (arith, few, same);
    }
