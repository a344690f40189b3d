use Rattle.std.proofs.Common.{◌≡◌, ◌⊎◌, ◌↔◌, ap, subst}
use Rattle.kb_label.specs.Names.{Name}
use Rattle.mkb_pick.specs.Tasks.{Has}
use Rattle.mkb_pick.specs.Queues.{IsAt, Shows}
use Rattle.mkb_pick.specs.declared.queue.Entry.{Entry}
use Rattle.mkb_pick.proofs.Viewed.{still_seen, come_seen, jobs_come_seen, seated}
use Rattle.mkb_pick.proofs.Replaced.{with_come, bare_entry}
use Rattle.mkb_pick.proofs.agenda.Agenda.list.Goals as goal

pub put_in-requires-clause-free : goal.put_in-requires-clause-free
put_in-requires-clause-free c h =
    let is = still_seen c.self.inside.queue c.stock.new.self c.args.self.now.processes (c.self.invariant.0, ap (λ v. v.processes) c.self.view_is) c.stock.ensures.queue c.stock.ensures.names c.stock.ensures.entries in
    c.requires ((seated c.stock.new.self c.args.self.now.processes is c.args.process).1 h)

pub returns-clause-processes : goal.returns-clause-processes
returns-clause-processes c =
    let is = still_seen c.self.inside.queue c.stock.new.self c.args.self.now.processes (c.self.invariant.0, ap (λ v. v.processes) c.self.view_is) c.stock.ensures.queue c.stock.ensures.names c.stock.ensures.entries in
    let more = subst (λ (x : Entry). (n : Name) (e : Entry) → IsAt c.put_in.new.self n e ↔ (((n ≡ c.args.process) × (e ≡ x)) ⊎ IsAt c.stock.new.self n e)) c.awake.ensures.bare c.put_in.ensures.entries in
    come_seen c.stock.new.self c.put_in.new.self c.args.self.now.processes is c.put_in.ensures.queue c.args.process c.args.cost (λ n cost rests. with_come c.stock.new.self c.put_in.new.self c.args.process (bare_entry c.args.cost c.awake.result.marks) more n (Shows cost rests))

pub returns-clause-jobs : goal.returns-clause-jobs
returns-clause-jobs c =
    let is = still_seen c.self.inside.queue c.stock.new.self c.args.self.now.processes (c.self.invariant.0, ap (λ v. v.processes) c.self.view_is) c.stock.ensures.queue c.stock.ensures.names c.stock.ensures.entries in
    let more = subst (λ (x : Entry). (n : Name) (e : Entry) → IsAt c.put_in.new.self n e ↔ (((n ≡ c.args.process) × (e ≡ x)) ⊎ IsAt c.stock.new.self n e)) c.awake.ensures.bare c.put_in.ensures.entries in
    jobs_come_seen c.stock.new.self c.put_in.new.self c.args.self.now.processes is c.put_in.ensures.queue c.args.process (λ n t. with_come c.stock.new.self c.put_in.new.self c.args.process (bare_entry c.args.cost c.awake.result.marks) more n (λ x. Has x.tasks t))
