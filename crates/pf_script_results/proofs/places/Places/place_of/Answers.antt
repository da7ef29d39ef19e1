use Rattle.pf_script_results.proofs.Standing.{line_stands, lines_stand, origin_stands, origins_left}
use Rattle.pf_script_results.proofs.places.Places.place_of.Goals as goal
