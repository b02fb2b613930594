mod Climb
