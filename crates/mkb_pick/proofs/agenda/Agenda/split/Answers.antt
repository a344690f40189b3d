use Rattle.std.proofs.Common.{ℕ, ◌≡◌, ◌≤◌, ◌<◌, ◌+◌, vec_len, ap, true, false, arith, length}
use Rattle.std.specs.Prelude.{min, max, ◌-◌, ◌^◌}
use Rattle.kb_label.specs.Names.{child}
use Rattle.mkb_pick.specs.Trees.{count}
use Rattle.mkb_pick.proofs.Viewed.{seated, still_seen, parted_seen, jobs_parted_seen, count_seen}
use Rattle.mkb_pick.proofs.agenda.Agenda.split.Goals as goal

no_truth : false ≡ true → ⊥
no_truth e = cc

too_many : (x k s t v : ℕ) → x ≤ s → t ≡ s → t ≤ v → v < 2 ^ 63 → (y : ℕ) → x ≡ y → k ≡ min y (2 ^ 64 - 1) → k ≡ 2 ^ 64 - 1 → false ≡ true
too_many x k s t v a b d e y f g h = absurd (omega (arith, a, b, d, e, f, g, h))

few_enough : (x k s t : ℕ) → x ≤ s → t ≡ s → (y : ℕ) → x ≡ y → k ≡ min y (2 ^ 64 - 1) → k ≤ t
few_enough x k s t a b y f g = omega (arith, a, b, f, g)

what_is_left : (x k s t m n : ℕ) → t ≡ s → (y : ℕ) → x ≡ y → k ≡ min y (2 ^ 64 - 1) → ¬ (k ≡ 2 ^ 64 - 1) → m ≡ max t k → n + k ≡ m → n ≡ s - x
what_is_left x k s t m n a y f g h i j = omega (arith, a, f, g, h, i, j)

pub returns-then-jobs-clause-room : goal.returns-then-jobs-clause-room
returns-then-jobs-clause-room c l h named few room =
    let e = count_seen c.self.inside.queue c.args.self.now.processes (c.self.invariant.0, ap (λ v. v.processes) c.self.view_is) c.args.process.now l h named in
    let boxes = c.self.inside.stores.jobs.boxes in
    let small : vec_len boxes < 2 ^ 63 = omega (arith, boxes.small, boxes.ok.1) in
    too_many (length l.jobs) c.count_of-jobs.result c.args.self.now.spare_jobs c.self.inside.stores.spare_jobs (vec_len boxes) few (ap (λ v. v.spare_jobs) c.self.view_is) c.self.invariant.1 small (count e.0.tasks) e.2 (c.count_of-jobs.ensures e.0 e.1) c.if-jobs.true

pub returns-in_err-stock-clause-room : goal.returns-in_err-stock-clause-room
returns-in_err-stock-clause-room c l h named few room =
    let e = count_seen c.self.inside.queue c.args.self.now.processes (c.self.invariant.0, ap (λ v. v.processes) c.self.view_is) c.args.process.now l h named in
    let spare : c.self.inside.queue.spare ≡ c.args.self.now.spare_processes = ap (λ v. v.spare_processes) c.self.view_is in
    let one : 1 ≤ c.self.inside.queue.spare = omega (arith, spare, room) in
    let no : false ≡ true = c.in_err-stock.ensures.room (few_enough (length l.jobs) c.count_of-jobs.result c.args.self.now.spare_jobs c.self.inside.stores.spare_jobs few (ap (λ v. v.spare_jobs) c.self.view_is) (count e.0.tasks) e.2 (c.count_of-jobs.ensures e.0 e.1)) one in
    absurd (no_truth no)

pub fork-requires-clause-seated : goal.fork-requires-clause-seated
fork-requires-clause-seated c =
    let is = still_seen c.self.inside.queue c.stock.new.queue c.args.self.now.processes (c.self.invariant.0, ap (λ v. v.processes) c.self.view_is) c.stock.ensures.queue c.stock.ensures.names c.stock.ensures.entries in
    (seated c.stock.new.queue c.args.self.now.processes is c.args.process.now).0 c.requires.listed

pub fork-requires-clause-free : goal.fork-requires-clause-free
fork-requires-clause-free c bit h =
    let is = still_seen c.self.inside.queue c.stock.new.queue c.args.self.now.processes (c.self.invariant.0, ap (λ v. v.processes) c.self.view_is) c.stock.ensures.queue c.stock.ensures.names c.stock.ensures.entries in
    c.requires.free bit ((seated c.stock.new.queue c.args.self.now.processes is (child c.args.process.now bit)).1 h)

pub returns-clause-processes : goal.returns-clause-processes
returns-clause-processes c =
    let is = still_seen c.self.inside.queue c.stock.new.queue c.args.self.now.processes (c.self.invariant.0, ap (λ v. v.processes) c.self.view_is) c.stock.ensures.queue c.stock.ensures.names c.stock.ensures.entries in
    parted_seen c.stock.new.queue c.fork.new.self c.args.self.now.processes is c.fork.ensures.queue c.args.process.now (child c.args.process.now false) (child c.args.process.now true) c.fork.ensures.seats

pub returns-clause-jobs : goal.returns-clause-jobs
returns-clause-jobs c =
    let is = still_seen c.self.inside.queue c.stock.new.queue c.args.self.now.processes (c.self.invariant.0, ap (λ v. v.processes) c.self.view_is) c.stock.ensures.queue c.stock.ensures.names c.stock.ensures.entries in
    jobs_parted_seen c.stock.new.queue c.fork.new.self c.args.self.now.processes is c.fork.ensures.queue c.args.process.now (child c.args.process.now false) (child c.args.process.now true) c.fork.ensures.tasks

pub returns-clause-spare_jobs : goal.returns-clause-spare_jobs
returns-clause-spare_jobs c l h named =
    let e = count_seen c.self.inside.queue c.args.self.now.processes (c.self.invariant.0, ap (λ v. v.processes) c.self.view_is) c.args.process.now l h named in
    what_is_left (length l.jobs) c.count_of-jobs.result c.args.self.now.spare_jobs c.self.inside.stores.spare_jobs c.stock.new.self.spare_jobs c.fork.new.stores.spare_jobs (ap (λ v. v.spare_jobs) c.self.view_is) (count e.0.tasks) e.2 (c.count_of-jobs.ensures e.0 e.1) c.if-jobs.false c.in_ok-stock.ensures.ok.0 c.fork.ensures.jobs
