use Rattle.std.proofs.Common.{refl}
use Rattle.refusal_places.proofs.NamedNumbers.{read_back}
use Rattle.refusal_places.proofs.laws.numbers_are_read_back.Goals as goal

pub returns-clause-block : goal.returns-clause-block
returns-clause-block c = λ n b rest small other. rw (read_back n b rest small other) refl

pub returns-clause-sheet_row : goal.returns-clause-sheet_row
returns-clause-sheet_row c = λ n b rest small other. rw (read_back n b rest small other) refl

pub returns-clause-table_row : goal.returns-clause-table_row
returns-clause-table_row c = λ n b rest small other. rw (read_back n b rest small other) refl

pub returns-clause-target_row : goal.returns-clause-target_row
returns-clause-target_row c = λ n b rest small other. rw (read_back n b rest small other) refl

pub returns-clause-target_sum : goal.returns-clause-target_sum
returns-clause-target_sum c = λ n b rest small other. rw (read_back n b rest small other) refl

pub returns-clause-set_row : goal.returns-clause-set_row
returns-clause-set_row c = λ n b rest small other. rw (read_back n b rest small other) refl

pub returns-clause-set_sum : goal.returns-clause-set_sum
returns-clause-set_sum c = λ n b rest small other. rw (read_back n b rest small other) refl

pub returns-clause-observation_row : goal.returns-clause-observation_row
returns-clause-observation_row c = λ n b rest small other. rw (read_back n b rest small other) refl

pub returns-clause-residual : goal.returns-clause-residual
returns-clause-residual c = λ n b rest small other. rw (read_back n b rest small other) refl

pub returns-clause-station_target : goal.returns-clause-station_target
returns-clause-station_target c = λ n b rest small other. rw (read_back n b rest small other) refl

pub returns-clause-station_observation : goal.returns-clause-station_observation
returns-clause-station_observation c = λ n b rest small other. rw (read_back n b rest small other) refl
