use Rattle.std.proofs.Common.{◌≡◌, ℕ, ◌+◌, ◌-◌, ◌*◌, ◌≤◌, length, get_or, take, drop, set, sym, ap, ◌∙◌, subst, arith, rules as general_rules}
use borrow.Author.Rules.{scaled_fits≤}
use borrow.Rule.Slice.PartMut.{put_mid}
use Rattle.std.proofs.lemmas.List.{get_or_default}
use Rattle.reading.specs.Readings.{rules}
use Rattle.protocol.specs.Settings.{setting}
use Rattle.client.specs.Taking.{BegunRead}
use Rattle.client.specs.declared.state.Client.{Client}
use Rattle.delivery.specs.Memory.{part, new_client}
use Rattle.delivery.specs.Parts.{clients_in}
use Rattle.protocol.specs.Clients.{begins_read}
use Rattle.register.specs.Beginning.{BegunAt, ReadReports}
use Rattle.register.proofs.Beginning.{begun_read_at}
use Rattle.register.proofs.begin.begin_read_at.Goals as goal

pub overflow_mul-first : goal.overflow_mul-first
overflow_mul-first g c =
    let n = g.Q.QuorumSystem.size c.args.system.now in
    let k = c.entries_for-count.result in
    let size : k ≡ n * (n + 1) = c.entries_for-count.ensures ∙ ap (λ x. x * (x + 1)) c.servers.ensures in
    let ends : c.args.client * k + k ≤ length c.args.reports.now = subst (λ x. c.args.client * x + x ≤ length c.args.reports.now) (sym size) c.requires.part in
    omega (arith, ends)

pub overflow_add-first : goal.overflow_add-first
overflow_add-first g c =
    let n = g.Q.QuorumSystem.size c.args.system.now in
    let k = c.entries_for-count.result in
    let size : k ≡ n * (n + 1) = c.entries_for-count.ensures ∙ ap (λ x. x * (x + 1)) c.servers.ensures in
    let ends : c.args.client * k + k ≤ length c.args.reports.now = subst (λ x. c.args.client * x + x ≤ length c.args.reports.now) (sym size) c.requires.part in
    omega (arith, ends)

pub offset_bounds-reports-first : goal.offset_bounds-reports-first
offset_bounds-reports-first g c =
    let n = g.Q.QuorumSystem.size c.args.system.now in
    let k = c.entries_for-count.result in
    let size : k ≡ n * (n + 1) = c.entries_for-count.ensures ∙ ap (λ x. x * (x + 1)) c.servers.ensures in
    let ends : c.args.client * k + k ≤ length c.args.reports.now = subst (λ x. c.args.client * x + x ≤ length c.args.reports.now) (sym size) c.requires.part in
    let i : c.args.client * k ≤ length c.args.reports.now = omega (arith, ends) in
    search (general_rules, scaled_fits≤)

pub slice_bounds-begin_read-end : goal.slice_bounds-begin_read-end
slice_bounds-begin_read-end g c =
    let n = g.Q.QuorumSystem.size c.args.system.now in
    let k = c.entries_for-count.result in
    let size : k ≡ n * (n + 1) = c.entries_for-count.ensures ∙ ap (λ x. x * (x + 1)) c.servers.ensures in
    let ends : c.args.client * k + k ≤ length c.args.reports.now = subst (λ x. c.args.client * x + x ≤ length c.args.reports.now) (sym size) c.requires.part in
    omega (arith, ends)

pub returns : goal.returns
returns g c m capacity most few =
    let q = c.args.system.now in
    let n = g.Q.QuorumSystem.size q in
    let k = c.entries_for-count.result in
    let size : k ≡ n * (n + 1) = c.entries_for-count.ensures ∙ ap (λ x. x * (x + 1)) c.servers.ensures in
    let R = rules n (g.Q.QuorumSystem.quorum q) (g.Q.QuorumSystem.fail_prone q) g.S.Timestamp.above g.V.Value.same in
    let K = setting m capacity most R g.S.Timestamp.owner g.S.Timestamp.lowest g.S.Timestamp.successor g.V.Value.initial_value in
    let bare = setting 0 0 0 R g.S.Timestamp.owner g.S.Timestamp.lowest g.S.Timestamp.successor g.V.Value.initial_value in
    let first : Client g.row.S.Denot g.row.V.Denot = new_client g.S.Timestamp.lowest in
    let cs = c.args.clients.now in
    let ps = c.args.reports.now in
    let u = c.args.client in
    let d : g.row.S.Denot × g.row.V.Denot = (g.S.Timestamp.lowest, g.V.Value.initial_value) in
    let ends : u * k + k ≤ length ps = subst (λ x. u * x + x ≤ length ps) (sym size) c.requires.part in
    let width : u * k + k - u * k ≡ k = omega arith in
    let given : get_or cs u c.index-clients-place.result ≡ get_or cs u first = get_or_default cs u c.index-clients-place.result first c.requires.client in
    let B : Client g.row.S.Denot g.row.V.Denot → ℕ → Type 0 = λ x z.
    BegunRead bare d x (take z (drop (u * k) ps)) u c.args.room c.begin_read.result c.begin_read.new.self c.begin_read.new.part in
    let begun : B (get_or cs u first) k = subst (λ z. B (get_or cs u first) z) width (subst (λ x. B x (u * k + k - u * k)) given c.begin_read.ensures) in
    let kept : length c.begin_read.new.part ≡ k = search general_rules in
    let W : ℕ → Type 0 = λ z.
    (length c.begin_read.new.part ≡ z) × BegunRead bare d (get_or cs u first) (part z ps u) u c.args.room c.begin_read.result c.begin_read.new.self c.begin_read.new.part in
    let whole : W (n * (n + 1)) = subst W size (kept, begun) in
    let done = begun_read_at K cs ps u c.args.room few c.requires.client c.requires.part c.begin_read.result c.begin_read.new.self c.begin_read.new.part whole.0 whole.1 in
    let P : ℕ → ℕ → Type 0 = λ y z.
    BegunAt K cs ps u (begins_read K u (clients_in K m cs ps u)) c.args.room c.begin_read.result (set cs u c.begin_read.new.self) (put_mid (u * y) z ps c.begin_read.new.part)
    × ReadReports K u ps c.begin_read.result (put_mid (u * y) z ps c.begin_read.new.part) in
    subst (λ z. P k z) (sym width) (subst (λ y. P y y) (sym size) done)
