-- What holds at the start and is kept by each entry holds of every board that a legal journal leads to.
use Rattle.std.specs.Prelude.{List, [], ◌∷◌}
use Rattle.std.proofs.Common.{sym, subst}
use Rattle.kb_term.specs.Signature.{Problem}
use Rattle.mkb_model.specs.Plain.{Plain}
use Rattle.mkb_model.specs.Journals.{Moment, Follows, IsRunBy, opening}
use Rattle.mkb_model.specs.declared.entry.Entry.{Entry}
use Rattle.kb_node.specs.declared.job.Job.{Job}
use Rattle.mkb_model.specs.declared.settings.Settings.{Settings}

pub holds_of_runs : (May : Plain → Job → Type 0) (P : Problem) (n : Settings) (Holds : Plain → Type 0)
    → Holds (opening P n)
    → ((past : List Moment) (b : Plain) (e : Entry) (c : Plain) → IsRunBy May P n past b → Holds b → Follows May past b e c → Holds c)
    → (ms : List Moment) (c : Plain) → IsRunBy May P n ms c → Holds c
holds_of_runs May P n Holds start kept [] c run = subst {A = Plain} Holds (sym run) start
holds_of_runs May P n Holds start kept (m ∷ ms) c run = kept ms m.board m.entry c run.0 (holds_of_runs May P n Holds start kept ms m.board run.0) run.1
