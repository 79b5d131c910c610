-- `report::put_digits` ends: each call writes a digit less.
use Rattle.report.proofs.+put_digits.Given as goal

abbrev pub decreases-put_digits : goal.decreases-put_digits
decreases-put_digits l = l.k
