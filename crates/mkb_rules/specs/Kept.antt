-- What a state keeps of pairs of rules and of orders, as lists of the plain board.
use Rattle.std.specs.Prelude.{ℕ, suc, List, [], ◌∷◌, map, take, if◌then◌else◌}
use Rattle.kb_cert.specs.declared.certificate.Certificate.{Certificate}
use Rattle.kb_label.specs.Names.{Name, name_eq, root}
use Rattle.mkb_model.specs.Plain.{Done, Certified as OrderOf}
use Rattle.mkb_rules.specs.declared.overlapped.DonePair.{DonePair}
use Rattle.mkb_rules.specs.declared.state.Certified.{Certified}

-- the pairs of overlapped rules
abbrev pub plain_done : List DonePair → List Done
plain_done ds = map (λ (d : DonePair). record { first = d.first; second = d.second; names = d.names }) ds

-- the orders of processes
abbrev pub plain_certificates : List Certified → List OrderOf
plain_certificates cs = map (λ (c : Certified). record { name = c.name; certificate = c.certificate }) cs

-- the first process has the first of the orders, if there is one
abbrev pub first_order_in : List Certificate → List OrderOf
first_order_in orders = map (λ (c : Certificate). record { name = root; certificate = c }) (take 1 orders)

-- the number of the first order that is kept for the process; how many there are where none is
abbrev pub place_in : List OrderOf → Name → ℕ
place_in [] p = 0
place_in (c ∷ cs) p = if name_eq c.name p then 0 else suc (place_in cs p)
