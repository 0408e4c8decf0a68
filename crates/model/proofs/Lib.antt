mod RouteSets
