use Rattle.std.proofs.Common.{rules}
use Rattle.map_model.proofs.Listing.{all_edges_show}
use Rattle.map_model.proofs.Showing.{questions_agree_after_every_run, every_run_keeps_the_map}
use Rattle.map_model.proofs.all_edges_show_what_was_granted_last.Goals as goal

pub returns : goal.returns
returns g c = record { answer = search rules; promise = all_edges_show; questions = questions_agree_after_every_run; kept = every_run_keeps_the_map }
