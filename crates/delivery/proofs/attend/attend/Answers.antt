use Rattle.std.proofs.Common.{◌≡◌, ℕ, false, ◌+◌, ◌-◌, ◌*◌, ◌≤◌, length, get_or, take, drop, set, sym, ap, ◌∙◌, subst, arith, rules as general_rules}
use borrow.Author.Rules.{scaled_fits≤}
use borrow.Rule.Slice.PartMut.{put_mid}
use Rattle.std.proofs.lemmas.List.{length-take-le, length-drop, get_or_default}
use Rattle.protocol.specs.Settings.{setting_of}
use Rattle.client.specs.Taking.{hears_value, TakenIn}
use Rattle.client.specs.declared.state.Client.{Client}
use Rattle.delivery.specs.Memory.{part, new_client}
use Rattle.delivery.specs.Parts.{ClientsKept, Attended}
use Rattle.delivery.proofs.Attending.{kept, attended}
use Rattle.delivery.proofs.attend.attend.Goals as goal

pub overflow_mul-first : goal.overflow_mul-first
overflow_mul-first g c =
    let n = g.Q.QuorumSystem.size c.args.system.now in
    let k = c.entries_for-count.result in
    let size : k ≡ n * (n + 1) = c.entries_for-count.ensures ∙ ap (λ x. x * (x + 1)) c.servers.ensures in
    let ends : c.args.message.client * k + k ≤ length c.args.reports.now = subst (λ x. c.args.message.client * x + x ≤ length c.args.reports.now) (sym size) c.requires.part in
    omega (arith, ends)

pub overflow_add-first : goal.overflow_add-first
overflow_add-first g c =
    let n = g.Q.QuorumSystem.size c.args.system.now in
    let k = c.entries_for-count.result in
    let size : k ≡ n * (n + 1) = c.entries_for-count.ensures ∙ ap (λ x. x * (x + 1)) c.servers.ensures in
    let ends : c.args.message.client * k + k ≤ length c.args.reports.now = subst (λ x. c.args.message.client * x + x ≤ length c.args.reports.now) (sym size) c.requires.part in
    omega (arith, ends)

pub offset_bounds-reports-first : goal.offset_bounds-reports-first
offset_bounds-reports-first g c =
    let n = g.Q.QuorumSystem.size c.args.system.now in
    let k = c.entries_for-count.result in
    let size : k ≡ n * (n + 1) = c.entries_for-count.ensures ∙ ap (λ x. x * (x + 1)) c.servers.ensures in
    let ends : c.args.message.client * k + k ≤ length c.args.reports.now = subst (λ x. c.args.message.client * x + x ≤ length c.args.reports.now) (sym size) c.requires.part in
    let i : c.args.message.client * k ≤ length c.args.reports.now = omega (arith, ends) in
    search (general_rules, scaled_fits≤)

pub slice_bounds-take_in-end : goal.slice_bounds-take_in-end
slice_bounds-take_in-end g c =
    let n = g.Q.QuorumSystem.size c.args.system.now in
    let k = c.entries_for-count.result in
    let size : k ≡ n * (n + 1) = c.entries_for-count.ensures ∙ ap (λ x. x * (x + 1)) c.servers.ensures in
    let ends : c.args.message.client * k + k ≤ length c.args.reports.now = subst (λ x. c.args.message.client * x + x ≤ length c.args.reports.now) (sym size) c.requires.part in
    omega (arith, ends)

pub returns-clause-attended : goal.returns-clause-attended
returns-clause-attended g c m few =
    let q = c.args.system.now in
    let n = g.Q.QuorumSystem.size c.args.system.now in
    let k = c.entries_for-count.result in
    let size : k ≡ n * (n + 1) = c.entries_for-count.ensures ∙ ap (λ x. x * (x + 1)) c.servers.ensures in
    let ends : c.args.message.client * k + k ≤ length c.args.reports.now = subst (λ x. c.args.message.client * x + x ≤ length c.args.reports.now) (sym size) c.requires.part in
    let K = setting_of g.Q.QuorumSystem g.S.Timestamp g.V.Value q 0 0 0 in
    let first : Client g.row.S.Denot g.row.V.Denot = new_client g.S.Timestamp.lowest in
    let cs = c.args.clients.now in
    let ps = c.args.reports.now in
    let u = c.args.message.client in
    let d : g.row.S.Denot × g.row.V.Denot = (g.S.Timestamp.lowest, g.V.Value.initial_value) in
    let width : u * k + k - u * k ≡ k = omega arith in
    let given : get_or cs u c.index-clients-place.result ≡ get_or cs u first = get_or_default cs u c.index-clients-place.result first c.requires.client in
    let R : Client g.row.S.Denot g.row.V.Denot → ℕ → Type 0 = λ x z.
    TakenIn K d x (take z (drop (u * k) ps)) c.args.message c.args.kind c.args.room c.take_in.result c.take_in.new.self c.take_in.new.part in
    let taken : R (get_or cs u first) k = subst (λ z. R (get_or cs u first) z) width (subst (λ x. R x (u * k + k - u * k)) given c.take_in.ensures.taken) in
    let rest : length (drop (u * k) ps) ≡ length ps - u * k = length-drop (u * k) ps in
    let long : length (part k ps u) ≡ k = length-take-le k (drop (u * k) ps) (omega (arith, rest, ends)) in
    let same : length c.take_in.new.part ≡ k = search general_rules in
    let inside : u * k + k ≤ length ps = omega (arith, ends) in
    let W : ℕ → Type 0 = λ z.
    (u * z + z ≤ length ps) × (length (part z ps u) ≡ z) × (length c.take_in.new.part ≡ z)
    × TakenIn K d (get_or cs u first) (part z ps u) c.args.message c.args.kind c.args.room c.take_in.result c.take_in.new.self c.take_in.new.part in
    let whole : W (n * (n + 1)) = subst W size (inside, long, same, taken) in
    let done = attended K m cs ps c.args.message c.args.kind c.args.room few c.requires.client c.requires.server whole.0 whole.1
    c.take_in.result c.take_in.new.self c.take_in.new.part whole.2 whole.3 in
    let P : ℕ → ℕ → Type 0 = λ y z.
    Attended K m cs ps c.args.message c.args.kind c.args.room c.take_in.result (set cs u c.take_in.new.self) (put_mid (u * y) z ps c.take_in.new.part) in
    subst (λ z. P k z) (sym width) (subst (λ y. P y y) (sym size) done)

pub returns-clause-kept : goal.returns-clause-kept
returns-clause-kept g c m few =
    let q = c.args.system.now in
    let n = g.Q.QuorumSystem.size c.args.system.now in
    let k = c.entries_for-count.result in
    let size : k ≡ n * (n + 1) = c.entries_for-count.ensures ∙ ap (λ x. x * (x + 1)) c.servers.ensures in
    let ends : c.args.message.client * k + k ≤ length c.args.reports.now = subst (λ x. c.args.message.client * x + x ≤ length c.args.reports.now) (sym size) c.requires.part in
    let K = setting_of g.Q.QuorumSystem g.S.Timestamp g.V.Value q 0 0 0 in
    let first : Client g.row.S.Denot g.row.V.Denot = new_client g.S.Timestamp.lowest in
    let cs = c.args.clients.now in
    let ps = c.args.reports.now in
    let u = c.args.message.client in
    let d : g.row.S.Denot × g.row.V.Denot = (g.S.Timestamp.lowest, g.V.Value.initial_value) in
    let width : u * k + k - u * k ≡ k = omega arith in
    let given : get_or cs u c.index-clients-place.result ≡ get_or cs u first = get_or_default cs u c.index-clients-place.result first c.requires.client in
    let R : Client g.row.S.Denot g.row.V.Denot → ℕ → Type 0 = λ x z. hears_value x c.args.message c.args.kind ≡ false → c.take_in.new.part ≡ take z (drop (u * k) ps) in
    let unheard : R (get_or cs u first) k = subst (λ z. R (get_or cs u first) z) width (subst (λ x. R x (u * k + k - u * k)) given c.take_in.ensures.unheard) in
    let rest : length (drop (u * k) ps) ≡ length ps - u * k = length-drop (u * k) ps in
    let long : length (part k ps u) ≡ k = length-take-le k (drop (u * k) ps) (omega (arith, rest, ends)) in
    let same : length c.take_in.new.part ≡ k = search general_rules in
    let inside : u * k + k ≤ length ps = omega (arith, ends) in
    let W : ℕ → Type 0 = λ z.
    (u * z + z ≤ length ps) × (length (part z ps u) ≡ z) × (length c.take_in.new.part ≡ z)
    × (hears_value (get_or cs u first) c.args.message c.args.kind ≡ false → c.take_in.new.part ≡ part z ps u) in
    let whole : W (n * (n + 1)) = subst W size (inside, long, same, unheard) in
    let done = kept K m cs ps c.args.message c.args.kind c.args.room few c.requires.client c.requires.server whole.0 whole.1
    c.take_in.new.self c.take_in.new.part whole.2 whole.3 in
    let P : ℕ → ℕ → Type 0 = λ y z.
    ClientsKept K m cs ps c.args.message c.args.kind (set cs u c.take_in.new.self) (put_mid (u * y) z ps c.take_in.new.part) in
    subst (λ z. P k z) (sym width) (subst (λ y. P y y) (sym size) done)
