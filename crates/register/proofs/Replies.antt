-- Replies of a register, accepted and refused. Assumes nothing.
use Rattle.std.proofs.Common.{◌≡◌, ℕ, Bool, true, false, not, [], ◌∷◌, Err, sym, refl, subst, arith}
use Rattle.std.proofs.lemmas.Bool.{both_ways}
use Rattle.calls.specs.Refusals.{first_failed, passed}
use Rattle.calls.specs.declared.Answer.{Answer}
use Rattle.calls.specs.declared.Answer.TheVariants.{Refused}
use Rattle.calls.specs.declared.Refusal.{Refusal}
use Rattle.calls.specs.declared.Refusal.TheVariants.{Memory}
use Rattle.protocol.specs.Settings.{Setting}
use Rattle.protocol.specs.Protocol.{Reply, refused}
use Rattle.delivery.specs.Memory.{Lent, enough}
use Rattle.delivery.specs.Answering.{Rest, Answered}
use Rattle.register.specs.declared.record.Register.{Register}
use Rattle.register.specs.Calling.{with_queue, state_of, Replied}

-- the one check refuses
pub one_refuses : (b : Bool) (e d : Refusal) → passed (first_failed ((not b, e) ∷ [])) ≡ Err d → (b ≡ false) × (d ≡ e)
one_refuses true e d is = let z : ◌≡◌ {A = ℕ} 0 1 = cc in absurd (omega arith)
one_refuses false e d is = (refl, cc)

-- the rest of memory that stays
pub rest_same : {S V : Type 0} (K : Setting S V) (len : ℕ) (x : Lent S V) → Rest K len x x
rest_same K len x = record { servers_rest = refl; clients_rest = refl; listeners_rest = refl; messages_rest = refl; reports_rest = refl }

module _ {Q S V : Type 0} (K : Setting S V) (g : Register Q) (x : Lent S V) where
  -- too little memory
  pub short : (reply : Reply S V) → enough K g.len x ≡ false → Replied K g x reply (Refused Memory) g x
  short reply little = record {
    called = record {
      short = λ e. record { answer_is = refl; length_kept = refl; faulty_kept = refl; memory_kept = refl };
      answered = λ e. absurd (both_ways (enough K g.len x) little e);
    };
    setting_kept = refl;
  }

  -- refused, since the memory does not suffice
  pub lacking : (reply : Reply S V) (e : Refusal) → passed (first_failed ((not (enough K g.len x), Memory) ∷ [])) ≡ Err e → Replied K g x reply (Refused e) g x
  lacking reply e was =
      let w = one_refuses (enough K g.len x) Memory e was in
      subst (λ d. Replied K g x reply (Refused d) g x) (sym w.1) (short reply w.0)

  -- answered as the protocol replies
  pub accepted : (reply : Reply S V) (r : Answer S V) (g' : Register Q) (x' : Lent S V) → enough K g.len x ≡ true
      → Answered K g.len g.faulty x reply r g'.len g'.faulty x' → g' ≡ with_queue g g'.len g'.faulty → Replied K g x reply r g' x'
  accepted reply r g' x' much answered kept = record {
    called = record { short = λ e. absurd (both_ways (enough K g.len x) e much); answered = λ e. answered };
    setting_kept = kept;
  }

  -- refused by a check of the protocol
  pub refusing : (e : Refusal) → enough K g.len x ≡ true → Replied K g x (refused (state_of K g x) e) (Refused e) g x
  refusing e much =
      accepted (refused (state_of K g x) e) (Refused e) g x much
      (record { answer_is = refl; state_after = refl; enough_after = much; rest_after = rest_same K g.len x; refused_kept = λ e is. (refl, refl, refl) }) refl
