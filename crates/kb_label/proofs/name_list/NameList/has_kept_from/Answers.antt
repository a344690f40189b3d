use Rattle.std.proofs.Common.{sym}
use Rattle.kb_label.proofs.Searched.{between-absent}
use Rattle.kb_label.proofs.name_list.NameList.has_kept_from.Goals as goal

pub returns-in-Greater : goal.returns-in-Greater
returns-in-Greater c = sym (between-absent c.args.self.now c.args.name.now c.args.place.now (c.are_before_kept.ensures c.if-are_before_kept.true) (c.beside_at.ensures.greater c.in-Greater.is))
