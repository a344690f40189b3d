use Rattle.kb_label.proofs.Sets.{united-relabel}
use Rattle.kb_label.proofs.name_list.NameList.relabel.Goals as goal

pub returns-in-Ok-clause-back : goal.returns-in-Ok-clause-back
returns-in-Ok-clause-back c = united-relabel c.args.process.now c.args.self.now c.place.ensures.in_order
