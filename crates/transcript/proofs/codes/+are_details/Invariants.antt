use Rattle.transcript.proofs.codes.+are_details.Given as goal

abbrev pub decreases-are_details : goal.decreases-are_details
decreases-are_details l = l.most
