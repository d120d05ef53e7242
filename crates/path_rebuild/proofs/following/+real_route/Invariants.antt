use Rattle.path_rebuild.proofs.following.+real_route.Given as goal

abbrev pub decreases-real_route : goal.decreases-real_route
decreases-real_route l = l.fuel
