-- What is left: one less for the other, and no more than that for the next turn.
use Rattle.outline_rows.proofs.+list_faces_list_pieces.Given as goal

abbrev pub decreases-list_faces : goal.decreases-list_faces
decreases-list_faces l = l.left

abbrev pub decreases-list_pieces : goal.decreases-list_pieces
decreases-list_pieces l = l.left
