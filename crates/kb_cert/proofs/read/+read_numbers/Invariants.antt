use Rattle.kb_cert.proofs.read.+read_numbers.Given as goal

abbrev pub decreases-read_numbers : goal.decreases-read_numbers
decreases-read_numbers l = l.count
