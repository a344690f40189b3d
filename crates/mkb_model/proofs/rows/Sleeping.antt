-- Small examples of who falls asleep and who wakes: 65 processes with the equation a = b, of which 64 may be awake.
use Rattle.std.specs.Prelude.{ℕ, zero, suc, List, [], ◌∷◌, map, true, false, ◌≡◌, refl, replicate}
use Rattle.std.specs.List.{flat_map}
use Rattle.kb_label.specs.Names.{Name, child, relabel}
use Rattle.kb_label.specs.declared.verdict.Reason.TheVariants.{Steps}
use Rattle.mkb_model.specs.Plain.{Plain, PlainNode}
use Rattle.mkb_model.specs.DueJobs.{due_jobs}
use Rattle.mkb_model.specs.Effects.{give_up}
use Rattle.mkb_model.specs.Sleeping.{settled}
use Rattle.mkb_model.specs.Journals.{opening, stated}
use Rattle.mkb_model.proofs.rows.Worked.{two_constants}

-- all names of so many bits
abbrev pub names_of : ℕ → List Name
names_of zero = [] ∷ []
names_of (suc n) = flat_map (λ p. child p false ∷ child p true ∷ []) (names_of n)

abbrev pub first : Name
first = replicate 6 false

abbrev pub last : Name
last = replicate 7 true

-- the 64 names of six bits, the last of which has forked
abbrev pub sixty_five : List Name
sixty_five = relabel (replicate 6 true) (names_of 6)

-- each has the equation
abbrev pub crowd : Plain
crowd = let b : Plain = opening two_constants (stated 100) in record b { living = sixty_five; nodes = map (λ (x : PlainNode). record x { equation = sixty_five }) b.nodes }

-- of equal costs the last by name falls asleep
last_sleeps : settled crowd ≡ last ∷ []
last_sleeps = refl

-- one that costs more falls asleep before it
costly_sleeps : settled (record crowd { nodes = map (λ (x : PlainNode). record x { constraint0 = first ∷ [] }) crowd.nodes }) ≡ first ∷ []
costly_sleeps = refl

-- where one of the others gives up it wakes
last_wakes : settled (record (give_up Steps (first ∷ []) crowd) { asleep = last ∷ [] }) ≡ []
last_wakes = refl

-- while 64 work it sleeps on
last_sleeps_on : settled (record crowd { asleep = last ∷ [] }) ≡ last ∷ []
last_sleeps_on = refl

-- a process that sleeps gets no job
no_job : due_jobs (record (opening two_constants (stated 100)) { asleep = [] ∷ [] }) ≡ []
no_job = refl
